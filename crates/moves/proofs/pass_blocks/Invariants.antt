use Rattle.std.proofs.Common.{ℕ, false, ◌-◌, ◌≤◌, ◌<◌, length, get_or}
use Rattle.moves.proofs.pass_blocks.Given as goal

abbrev pub invariant-loop-i : goal.invariant-loop-i
invariant-loop-i g l =
    (l.from ≤ l.i) × (l.i ≤ length l.bytes) × ((k : ℕ) → l.from ≤ k → k < l.i → goal.F-post g l.passes (get_or l.bytes k 0) false)

abbrev pub decreases-loop-i : goal.decreases-loop-i
decreases-loop-i g l = length l.bytes - l.i
