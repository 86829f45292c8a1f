use Prim.Native.Nat.{◌≤◌}
use mathlib.Core.Path.{◌≡◌}
use lib.ListN.{get_or}
use Rattle.cells.specs.Weights.{most_of}
use Rattle.cells.proofs.heaviest.Given as goal

abbrev pub invariant-loop-w : goal.invariant-loop-w
invariant-loop-w l = (l.w-index ≤ 512) × (l.most ≡ most_of (λ k. get_or l.weights k 0) l.w-index)
