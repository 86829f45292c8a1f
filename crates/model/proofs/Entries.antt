-- Where entries and permits stand, what becomes of a released entry, and what a permit allows. Assumes nothing.
use Prim.Native.Nat.{ℕ, ◌+◌, ◌%◌, ◌<◌}
use mathlib.Core.Bool.{true, false}
use mathlib.Core.List.{List}
use mathlib.Core.Path.{◌≡◌, refl}
use native.Mathlib.Omega.{arith}
use lib.ListN.{length, set}
use lib.Seq.{get_or-set_same}
use Rattle.lists.proofs.Choice.{true_false}
use Rattle.model.specs.declared.Entry.{Entry}
use Rattle.model.specs.declared.Grant.{Grant}
use Rattle.model.specs.declared.Grant.TheVariants.{Nothing, Reading, Writing}
use Rattle.model.specs.declared.Right.{Right}
use Rattle.model.specs.declared.Right.TheVariants.{Read}
use Rattle.model.specs.declared.Standing.{Standing}
use Rattle.model.specs.declared.Standing.TheVariants.{Unused, Valid, Revoked}
use Rattle.model.specs.Changes.{allows, released_from, released, list_owner, permit_slot}
use Rattle.model.specs.Searches.{is_unused}
use Rattle.model.specs.Sound.{IsGuest, IsEntry}
use Rattle.model.specs.Tables.{unused_entry, guest_place, permit_place, entry_place, entry_at}

-- two guests at one place are one guest
pub same_guest : (g h : ℕ) → IsGuest g → IsGuest h → guest_place h ≡ guest_place g → h ≡ g
same_guest g h i j e = omega arith

-- one permit stands at one place
pub same_permit : (u g v h : ℕ) → IsGuest g → IsGuest h → permit_place v h ≡ permit_place u g → (v ≡ u) × (h ≡ g)
same_permit u g v h i j e = omega arith

-- one entry stands at one place
pub same_entry : (g n h m : ℕ) → IsGuest g → IsEntry n → IsGuest h → IsEntry m → entry_place h m ≡ entry_place g n → (h ≡ g) × (m ≡ n)
same_entry g n h m i a j b e = omega arith

-- the places of guest g's entries have g for list_owner, those of slot u's permits have u for permit_slot
pub list_owner_lem : (g n : ℕ) → IsGuest g → IsEntry n → list_owner (entry_place g n) ≡ g
list_owner_lem g n i e = omega arith

pub permit_slot_lem : (u h : ℕ) → IsGuest h → permit_slot (permit_place u h) ≡ u
permit_slot_lem u h i = omega arith

-- an entry that was set is read back
pub entry_set : (es : List Entry) (g n : ℕ) (x : Entry) → length es ≡ 240 → IsGuest g → IsEntry n → entry_at (set es (entry_place g n) x) g n ≡ x
entry_set es g n x len i j = get_or-set_same es (entry_place g n) x unused_entry (omega arith)

-- An entry given up: it is unused, with its sequence up by one unless it was unused.
pub released_unused : (e : Entry) → (released e).standing ≡ Unused
unfolding released released_from
released_unused e = go e.standing
  where
    go : (x : Standing) → (released_from x e.sequence).standing ≡ Unused
    go Unused = refl
    go (Valid u r) = refl
    go Revoked = refl

pub released_raised : (e : Entry) → is_unused e.standing ≡ false → (released e).sequence ≡ (e.sequence + 1) % 256
unfolding released released_from is_unused
released_raised e = go e.standing
  where
    go : (x : Standing) → is_unused x ≡ false → (released_from x e.sequence).sequence ≡ (e.sequence + 1) % 256
    go Unused f = true_false refl f
    go (Valid u r) f = refl
    go Revoked f = refl

pub released_small : (e : Entry) → e.sequence < 256 → (released e).sequence < 256
unfolding released released_from
released_small e b = go e.standing
  where
    go : (x : Standing) → (released_from x e.sequence).sequence < 256
    go Unused = b
    go (Valid u r) = omega arith
    go Revoked = omega arith

pub released_nothing : released unused_entry ≡ unused_entry
unfolding released released_from
released_nothing = refl

-- "write includes read"
pub allows_read : (x : Grant) (r : Right) → allows x r ≡ true → allows x Read ≡ true
unfolding allows
allows_read Nothing r e = e
allows_read Reading r e = refl
allows_read Writing r e = refl

pub nothing_allowed : (x : Grant) → allows x Read ≡ false → x ≡ Nothing
unfolding allows
nothing_allowed Nothing e = refl
nothing_allowed Reading e = true_false refl e
nothing_allowed Writing e = true_false refl e
