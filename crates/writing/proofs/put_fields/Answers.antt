use Rattle.std.proofs.Common.{inl, inr}
use Rattle.writing.proofs.Remaining.{putting_start, putting_room, putting_takes, putting_more, putting_end, putting_few}
use Rattle.writing.proofs.put_fields.Goals as goal

pub loop-kind-init : goal.loop-kind-init
loop-kind-init c = putting_start _ _ _ _ _ _ (cc) (cc) c.requires.room c.requires.taken

pub put_next-requires-clause-room : goal.put_next-requires-clause-room
put_next-requires-clause-room c = let next = c.in-Some.ensures.steps in putting_room c.loop-kind.invariant _ _ _ _ next.0 next.1

pub put_next-requires-clause-taken : goal.put_next-requires-clause-taken
put_next-requires-clause-taken c = let next = c.in-Some.ensures.steps in putting_takes c.loop-kind.invariant _ _ _ _ next.0 next.1

pub loop-kind-preserved : goal.loop-kind-preserved
loop-kind-preserved c =
    let next = c.in-Some.ensures.steps in putting_more c.loop-kind.invariant _ _ _ _ next.0 next.1 _ c.put_next.ensures

pub returns : goal.returns
returns c =
    putting_end c.loop-kind.invariant
    (elim c.in-None.ensures.steps [ inl e ↦ e.1.0 | inr e ↦ putting_few c.loop-kind.invariant e.1.0 ])
