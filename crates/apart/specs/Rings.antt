-- Columns: the marks of the 32 slots twice over, so that each slot finds every other one at most 16 places further on.
use Rattle.std.specs.Prelude.{ℕ, ◌+◌, ◌<◌, List, ◌≡◌, length, get_or}
use Rattle.model.specs.declared.Space.{Space}
use Rattle.model.specs.Tables.{space_at}
use Rattle.apart.specs.Marks.{id_mark, name_mark, first_mark, end_mark}

-- the marks f of the first n slots
pub record Ring (f : ℕ → ℕ) (n : ℕ) (c : List ℕ) : Type 0 where
  pub long : length c ≡ 64
  pub near : (u : ℕ) → u < n → get_or c u 0 ≡ f u
  pub far : (u : ℕ) → u < n → get_or c (u + 32) 0 ≡ f u

abbrev pub ids_of : List Space → (slot : ℕ) → ℕ
ids_of ss u = id_mark (space_at ss u) u

abbrev pub names_of : List Space → (slot : ℕ) → ℕ
names_of ss u = name_mark (space_at ss u) u

abbrev pub firsts_of : List Space → (slot : ℕ) → ℕ
firsts_of ss u = first_mark (space_at ss u)

abbrev pub ends_of : List Space → (slot : ℕ) → ℕ
ends_of ss u = end_mark (space_at ss u)
