-- Counts of clashes. A count of 0 says that there is none.
use Rattle.std.specs.Prelude.{ℕ, ◌+◌, ◌≤◌, ◌<◌, ◌≢◌, ◌≡◌, get_or}
use Rattle.apart.specs.declared.quick.Columns.{Columns}

-- r is at most m, and where it is 0, P holds
pub record Warns (P : Type 0) (m r : ℕ) : Type 0 where
  pub most : r ≤ m
  pub none : r ≡ 0 → P

-- P holds of every number below n
abbrev pub Below : ℕ → (ℕ → Type 0) → Type 0
Below n P = (k : ℕ) → k < n → P k

-- two runs of frames, from f up to e and from g up to h, don't meet
abbrev pub Parted : (f e g h : ℕ) → Type 0
Parted f e g h = f < h → g < e → ⊥

-- nothing clashes in two places of the columns
pub record Clear (ids names firsts ends : ℕ → ℕ) (u v : ℕ) : Type 0 where
  pub id : ids u ≢ ids v
  pub name : names u ≢ names v
  pub frames : Parted (firsts u) (ends u) (firsts v) (ends v)

-- the same over the columns themselves
abbrev pub ClearIn : Columns → (u v : ℕ) → Type 0
ClearIn c = Clear (λ k. get_or c.ids k 0) (λ k. get_or c.names k 0) (λ k. get_or c.firsts k 0) (λ k. get_or c.ends k 0)

-- each slot against the one that stands d places further on
abbrev pub ClearAt : Columns → (distance : ℕ) → Type 0
ClearAt c d = Below 32 (λ u. ClearIn c u (u + d))
