use Prim.Native.Nat.{◌≤◌}
use Rattle.runs.proofs.Runs.{Tried, left}
use Rattle.runs.proofs.free_run.Given as goal

abbrev pub invariant-loop-clear : goal.invariant-loop-clear
invariant-loop-clear l = Tried l.frames l.spaces l.pages l.first l.u l.clear × (l.first ≤ l.last)

abbrev pub decreases-loop-clear : goal.decreases-loop-clear
decreases-loop-clear l = left l.last l.first l.clear
