use Rattle.std.proofs.Common.{refl, sym, inl, arith, rules}
use Rattle.feeds.proofs.Feeding.{going_start, line_starts, taken, stopped}
use Rattle.feeds.proofs.Feeder.feed.Goals as goal

pub loop-used-init : goal.loop-used-init
loop-used-init g c = record { going = going_start _ _ _; ready = c.begin.ensures.ready; kept = search rules; room = refl; starts = inl refl; most = omega (arith, c.kept-self.ensures.count.1) }

pub returns-in_default-clause-fed : goal.returns-in_default-clause-fed
returns-in_default-clause-fed g c =
    let l = c.loop-used in
    let inv = l.invariant in
    let b = c.begin.ensures in
    rw (← b.session, ← b.number, ← c.kept-self.ensures.same) (stopped _ c.args.input.now c.args.out.now l.out l.held l.used _ l.written _ l.self.have _ _ inv.going (sym c.in_default.ensures) (omega arith) inv.kept (omega (arith, inv.room)) _ _ refl c.hold-self.ensures.kept)

pub loop-used-preserved : goal.loop-used-preserved
loop-used-preserved g c =
    let l = c.loop-used in
    let inv = l.invariant in
    let e = c.in-Some.ensures in
    let t = c.take_line-written.ensures in
    record {
      going = taken _ c.args.input.now c.args.out.now l.out l.held l.used _ l.written _ l.self.have _ _ inv.going e.0 e.1 inv.kept (omega (arith, inv.room)) e.2 _ _ _ _ _ _ t.emptied t.session t.number t.said;
      ready = t.ready;
      kept = c.take_line-written.array_long;
      room = omega (arith, inv.room);
      starts = line_starts _ _ _ e.0 e.1 e.2;
      most = omega (arith, t.emptied);
    }
