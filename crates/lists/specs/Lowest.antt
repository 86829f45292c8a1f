-- What it is to be the lowest, as a statement.
use Rattle.std.specs.Prelude.{ℕ, ◌≤◌, ◌<◌}

-- k is the lowest number below n of which P holds; where P holds of none of them, k is not below n
pub record Lowest (P : ℕ → Type 0) (n k : ℕ) : Type 0 where
  pub found : k < n → P k
  pub least : (i : ℕ) → i < n → P i → k ≤ i
  pub none : n ≤ k → (i : ℕ) → i < n → P i → ⊥
