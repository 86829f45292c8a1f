-- The tests of entries, by a table of what each guest may do with each slot.
use Rattle.std.specs.Prelude.{ℕ, ◌+◌, ◌-◌, ◌*◌, Bool, true, List, get_or, ltb}
use Rattle.lists.specs.Choice.{both}
use Rattle.lists.specs.Places.{all_from, every}
use Rattle.model.specs.declared.Entry.{Entry}
use Rattle.model.specs.declared.Guest.{Guest}
use Rattle.model.specs.declared.Right.{Right}
use Rattle.model.specs.declared.Right.TheVariants.{Read, Write}
use Rattle.model.specs.declared.Standing.{Standing}
use Rattle.model.specs.declared.Standing.TheVariants.{Unused, Valid, Revoked}
use Rattle.model.specs.SoundTest.{untouched_test}
use Rattle.model.specs.Tables.{unused_entry}
use Rattle.permitted.specs.Columns.{guest_on}

abbrev pub entry_on : List Entry → (place index : ℕ) → Entry
entry_on es k i = get_or es (k * 30 + i) unused_entry

-- a power of number n allows a right of a rank below n
unfoldable pub right_rank : Right → ℕ
right_rank Read = 0
right_rank Write = 1

-- a valid entry of the guest at place k, by the table of powers
unfoldable pub valid_with : (powers : List ℕ) → (place slot : ℕ) → Right → Bool
valid_with ws k u r = both (ltb u 32) (ltb (right_rank r) (get_or ws (u * 8 + k) 0))

unfoldable pub standing_with : (powers : List ℕ) → (place : ℕ) → Standing → Bool
standing_with ws k Unused = true
standing_with ws k (Valid u r) = valid_with ws k u r
standing_with ws k Revoked = true

unfoldable pub standings_with : (powers : List ℕ) → List Entry → Bool
standings_with ws es = every (λ i. every (λ k. standing_with ws k (entry_on es k i).standing) 8) 30

-- an entry of the guest at place k, whose sequence has 8 bits
unfoldable pub entry_with : (powers : List ℕ) → (place : ℕ) → Entry → Bool
entry_with ws k e = both (ltb e.sequence 256) (standing_with ws k e.standing)

unfoldable pub entries_with : (powers : List ℕ) → List Entry → Bool
entries_with ws es = every (λ i. every (λ k. entry_with ws k (entry_on es k i)) 8) 30

unfoldable pub above_test : List Guest → List Entry → Bool
above_test gs es = every (λ k. all_from (λ i. untouched_test (entry_on es k i)) (guest_on gs k).list (30 - (guest_on gs k).list)) 8
