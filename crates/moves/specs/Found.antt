-- Where a byte stands.
use Rattle.std.specs.Prelude.{ℕ, ◌-◌, List, eqb, length, get_or}
use Rattle.lists.specs.Places.{lowest_from}

-- the place of the first byte b of l from i on, and the length of l where there is none
abbrev pub byte_from : (b : ℕ) → List ℕ → ℕ → ℕ
byte_from b l i = lowest_from (λ k. eqb (get_or l k 0) b) i (length l - i)
