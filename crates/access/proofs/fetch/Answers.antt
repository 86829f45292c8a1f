use Rattle.access.proofs.Reach.{seen_run}
use Rattle.access.proofs.fetch.Goals as goal

pub fetch_seen-requires : goal.fetch_seen-requires
fetch_seen-requires c = search (seen_run, c.args.s.now.held)

pub returns : goal.returns
returns c =
    let judged = c.fetch_seen.ensures.is _ _ c.args.s.now.held c.seen_by-v.ensures in
    record { value = judged.0; buffer_after = judged.1; seen = rw (← c.seen_by-v.ensures) c.fetch_seen.ensures }
