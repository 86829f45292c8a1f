use Rattle.access.proofs.Reach.{seen_run}
use Rattle.access.proofs.store.Goals as goal

pub store_seen-requires : goal.store_seen-requires
store_seen-requires c = search (seen_run, c.args.s.now.held)

pub returns : goal.returns
returns c =
    let judged = c.store_seen.ensures.is _ _ c.args.s.now.held c.seen_by-v.ensures in
    record { value = judged.0; scratch_after = judged.1; seen = rw (← c.seen_by-v.ensures) c.store_seen.ensures }
