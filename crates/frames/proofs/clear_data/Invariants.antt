-- The loop has cleared the frames of the guest's data spaces in the slots below the one that it comes to.
use Prim.Native.Nat.{◌≤◌}
use Rattle.frames.proofs.Freeing.{ClearedBelow}
use Rattle.frames.proofs.clear_data.Given as goal

abbrev pub invariant-loop-x : goal.invariant-loop-x
invariant-loop-x l = (l.x-index ≤ 32) × ClearedBelow l.spaces l.guest l.initial.scratch l.x-index l.scratch
