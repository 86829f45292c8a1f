use Rattle.std.proofs.Common.{ℕ, false, ◌+◌, ◌≤◌, ◌<◌, ◌≡◌, get_or}
use Rattle.moves.proofs.in_block.Given as goal

abbrev pub invariant-loop-k : goal.invariant-loop-k
invariant-loop-k g l = (l.n ≤ l.k) × (l.n ≡ 0 → (j : ℕ) → j < l.k → goal.F-post g l.passes (get_or l.bytes (l.i + j) 0) false)
