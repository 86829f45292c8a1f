-- The entry that a call takes of its caller's list.
use Rattle.std.specs.Prelude.{ℕ, min, ◌+◌, ◌*◌, Bool, List, ltb, get_or}
use Rattle.lists.specs.Choice.{choose}
use Rattle.lists.specs.Places.{lowest}
use Rattle.model.specs.declared.Entry.{Entry}
use Rattle.model.specs.Searches.{may_take}
use Rattle.model.specs.Tables.{unused_entry}

-- entry k of the list in a row, counted from 0
abbrev pub listed : List Entry → (row k : ℕ) → Entry
listed es row k = get_or es (row * 30 + k) unused_entry

-- the lowest that may be taken, and the list's length where there is none; no list has more than 30 entries, and a call that
-- takes none looks at none
unfoldable pub free_for : (takes : Bool) → (list : ℕ) → List Entry → (row : ℕ) → ℕ
free_for t l es row = choose t (lowest (λ k. may_take (listed es row k).standing) (min l 30)) 0

-- where it stands; the first of the list where there is none
unfoldable pub free_place : (row free : ℕ) → ℕ
free_place row k = choose (ltb k 30) (row * 30 + k) (row * 30)
