-- The slot that an entry names, where it looks in a set of slots, and the entry once it is revoked; the list whose entries stay.
use Rattle.std.specs.Prelude.{ℕ, leb, ltb}
use Rattle.lists.specs.Choice.{choose, both}
use Rattle.model.specs.declared.Entry.{Entry}
use Rattle.model.specs.declared.Standing.{Standing}
use Rattle.model.specs.declared.Standing.TheVariants.{Unused, Valid, Revoked}
use Rattle.model.specs.Sizes.{guest_count}
use Rattle.model.specs.Tables.{guest_place}

-- the slot that an entry names; 32, which is no slot, where it names none
unfoldable pub named_slot : Standing → ℕ
named_slot Unused = 32
named_slot (Valid u r) = u
named_slot Revoked = 32

-- the place at which an entry looks: the slot that it names, else the last
unfoldable pub look_place : Standing → ℕ
look_place x = choose (ltb (named_slot x) 32) (named_slot x) 32

abbrev pub revoked_entry : Entry → Entry
revoked_entry e = record { standing = Revoked; sequence = e.sequence }

-- the place of a guest's list, and of no list where the number is no guest's
unfoldable pub kept_list : (guest : ℕ) → ℕ
kept_list g = choose (both (leb 1 g) (leb g guest_count)) (guest_place g) guest_count
