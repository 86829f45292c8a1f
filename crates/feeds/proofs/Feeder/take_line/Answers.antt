use Rattle.feeds.proofs.Taken.{whole_session, whole_number, whole_said}
use Rattle.feeds.proofs.Feeder.take_line.Goals as goal

pub returns-then-self-eq0 : goal.returns-then-self-eq0
returns-then-self-eq0 g c =
    let t = c.take.ensures in
    record {
      ready = t.ready;
      emptied = c.if-self-eq0.true;
      session = search (whole_session, t.session);
      number = search (whole_number, t.number);
      said = search (whole_said, t.said);
    }
