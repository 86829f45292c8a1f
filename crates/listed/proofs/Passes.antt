-- The two passes over the entries: what each tests in a row. Assumes nothing.
use Prim.Native.Nat.{ℕ, ◌-◌}
use mathlib.Core.Bool.{Bool}
use mathlib.Core.List.{List}
use Rattle.lists.specs.Places.{all_from, every}
use Rattle.model.specs.declared.Entry.{Entry}
use Rattle.model.specs.declared.Guest.{Guest}
use Rattle.model.specs.SoundTest.{untouched_test}
use Rattle.permitted.specs.Columns.{guest_on}
use Rattle.listed.specs.Standings.{entry_on, standing_with, entry_with}

-- the entries at one index of all lists
abbrev pub entry_at : (powers : List ℕ) → List Entry → (index place : ℕ) → Bool
entry_at ws es i k = entry_with ws k (entry_on es k i)

abbrev pub column_at : (powers : List ℕ) → List Entry → (index : ℕ) → Bool
column_at ws es i = every (entry_at ws es i) 8

-- their standings alone
abbrev pub standing_at : (powers : List ℕ) → List Entry → (index place : ℕ) → Bool
standing_at ws es i k = standing_with ws k (entry_on es k i).standing

abbrev pub standings_at : (powers : List ℕ) → List Entry → (index : ℕ) → Bool
standings_at ws es i = every (standing_at ws es i) 8

-- the entries above one list
abbrev pub untouched_at : List Entry → (place index : ℕ) → Bool
untouched_at es k i = untouched_test (entry_on es k i)

abbrev pub above_at : List Guest → List Entry → (place : ℕ) → Bool
above_at gs es k = all_from (untouched_at es k) (guest_on gs k).list (30 - (guest_on gs k).list)
