-- What each test of the code says of the whole: where one fails the state is not sound, and the last one says whether it is.
-- Assumes nothing.
use Prim.Native.Nat.{ℕ, ◌+◌, ◌-◌, ◌≤◌}
use mathlib.Core.Bool.{Bool, true, false}
use mathlib.Core.List.{List}
use mathlib.Core.Path.{◌≡◌, sym, ap, ◌∙◌}
use native.Mathlib.Omega.{arith}
use lib.ListN.{length}
use borrow.Author.Tests.{eq-eqb}
use Rattle.std.specs.Prelude.{Option, Some, None, is_some}
use Rattle.lists.specs.Choice.{both}
use Rattle.lists.proofs.Choice.{both_yes, both_no}
use Rattle.lists.proofs.Places.{every_at}
use Rattle.model.specs.declared.Guest.{Guest}
use Rattle.model.specs.declared.Space.{Space}
use Rattle.model.specs.declared.State.{State}
use Rattle.model.specs.SoundTest.{sound, head_test, apart_test, spaces_test, guests_test, permits_test, entries_test, cells_test}
use Rattle.model.specs.Tables.{space_at}
use Rattle.model.proofs.SoundParts.{LiveFacts, slot_decides}
use Rattle.model.proofs.SoundTest.{head_decides}
use Rattle.cells.specs.Left.{AllFit}
use Rattle.permitted.specs.Columns.{Owners, OwnersOf, PowersOf, Permits}
use Rattle.permitted.proofs.Permits.{permits_is}
use Rattle.listed.specs.Standings.{entries_with, above_test}
use Rattle.listed.proofs.Entries.{entries_is}
use Rattle.listed.proofs.Valid.{standing_is}
use Rattle.sound.proofs.GuestLoop.{guests_is}
use Rattle.sound.proofs.Tags.{tag_owners_of}
use Rattle.sound.specs.Columns.{slots_test, Tagged, Slots, Guests}

spaces_is : (f n : ℕ) (gs : List Guest) (ss : List Space) → length ss ≡ 32 → both (slots_test f n gs ss) (apart_test ss) ≡ spaces_test f n gs ss
unfolding spaces_test
spaces_is f n gs ss len = sym (both_yes _ (eq-eqb (length ss) 32 len))

-- the tests passed so far
pub record HeadPassed (s : State) : Type 0 where
  pub head : head_test s.frames s.next ≡ true

pub record SlotsPassed (s : State) : Type 0 where
  pub before : HeadPassed s
  pub spaces : length s.spaces ≡ 32
  pub guests : length s.guests ≡ 8
  pub slots : slots_test s.frames s.next s.guests s.spaces ≡ true

pub record SpacesPassed (s : State) : Type 0 where
  pub before : SlotsPassed s
  pub spaces : spaces_test s.frames s.next s.guests s.spaces ≡ true

pub record GuestsPassed (s : State) : Type 0 where
  pub before : SpacesPassed s
  pub guests : guests_test s.spaces s.guests s.cpus ≡ true

pub record PermitsPassed (s : State) (ws : List ℕ) : Type 0 where
  pub before : GuestsPassed s
  pub permits : permits_test s.guests s.spaces s.permits ≡ true
  pub ts : List ℕ
  pub owners : OwnersOf s.spaces ts
  pub powers : PowersOf s.permits ts ws

pub record EntriesPassed (s : State) : Type 0 where
  pub ws : List ℕ
  pub before : PermitsPassed s ws
  pub entries : entries_test s.guests s.spaces s.permits s.entries ≡ true

module _ (s : State) where
  module _ (r : Bool) (e : r ≡ head_test s.frames s.next) where
    pub head_no : r ≡ false → false ≡ sound s
    unfolding sound
    head_no t = sym (both_no _ (sym e ∙ t))

    pub head_yes : r ≡ true → HeadPassed s
    head_yes t = record { head = sym e ∙ t }

  module _ (r : Option (List ℕ)) (said : Slots r s.frames s.next s.guests s.spaces) where
    pub slots_no : HeadPassed s → r ≡ None → false ≡ sound s
    unfolding sound
    slots_no p t = sym (both_yes _ p.head ∙ both_no _ (sym (spaces_is _ _ _ _ said.spaces) ∙ both_no _ (sym said.test ∙ ap is_some t)))

    pub slots_yes : HeadPassed s → (ts : List ℕ) → r ≡ Some ts → SlotsPassed s
    slots_yes p ts t = record { before = p; spaces = said.spaces; guests = said.guests; slots = sym said.test ∙ ap is_some t }

    pub tags_yes : (ts : List ℕ) → r ≡ Some ts → Tagged s.spaces ts
    tags_yes ts t = rw t at said.tags

    pub owners_yes : (ts : List ℕ) → r ≡ Some ts → Owners ts
    owners_yes ts t = (tags_yes ts t).owners

  module _ (r : Bool) (e : r ≡ apart_test s.spaces) (p : SlotsPassed s) where
    apart_is : r ≡ spaces_test s.frames s.next s.guests s.spaces
    apart_is = e ∙ sym (both_yes _ p.slots) ∙ spaces_is _ _ _ _ p.spaces

    pub apart_no : r ≡ false → false ≡ sound s
    unfolding sound
    apart_no t = sym (both_yes _ p.before.head ∙ both_no _ (sym apart_is ∙ t))

    pub apart_yes : r ≡ true → SpacesPassed s
    apart_yes t = record { before = p; spaces = sym apart_is ∙ t }

  module _ (ts : List ℕ) (tagged : Tagged s.spaces ts) where
    module _ (r : Bool) (said : Guests r ts s.guests s.cpus) (p : SpacesPassed s) where
      guests_said : r ≡ guests_test s.spaces s.guests s.cpus
      guests_said = guests_is s.frames s.next s.guests s.spaces s.cpus ts p.before.slots tagged.column p.before.guests r said

      pub guests_no : r ≡ false → false ≡ sound s
      unfolding sound
      guests_no t = sym (both_yes _ p.before.before.head ∙ both_yes _ p.spaces ∙ both_no _ (sym guests_said ∙ t))

      pub guests_yes : r ≡ true → GuestsPassed s
      guests_yes t = record { before = p; guests = sym guests_said ∙ t }

    module _ (r : Option (List ℕ)) (said : Permits r s.guests s.permits ts) (p : GuestsPassed s) where
      owners_said : OwnersOf s.spaces ts
      owners_said = tag_owners_of s.frames s.next s.guests s.spaces ts p.before.before.slots tagged.column

      permits_said : is_some r ≡ permits_test s.guests s.spaces s.permits
      permits_said = said.test ∙ permits_is s.guests s.spaces s.permits ts owners_said said.long

      pub permits_no : r ≡ None → false ≡ sound s
      unfolding sound
      permits_no t = sym (both_yes _ p.before.before.before.head ∙ both_yes _ p.before.spaces ∙ both_yes _ p.guests ∙ both_no _ (sym permits_said ∙ ap is_some t))

      pub permits_yes : (ws : List ℕ) → r ≡ Some ws → PermitsPassed s ws
      permits_yes ws t = record { before = p; permits = sym permits_said ∙ ap is_some t; ts = ts; owners = owners_said; powers = rw t at said.table }

  module _ (ws : List ℕ) (r : Bool) (e : r ≡ both (entries_with ws s.entries) (above_test s.guests s.entries)) (long : length s.entries ≡ 240) (p : PermitsPassed s ws) where
    entries_said : r ≡ entries_test s.guests s.spaces s.permits s.entries
    entries_said = e ∙ entries_is s.guests s.spaces s.permits s.entries ws (standing_is s.guests s.spaces s.permits p.ts ws p.owners p.permits p.powers) long

    pub entries_no : r ≡ false → r ≡ sound s
    unfolding sound
    entries_no t =
        let q = p.before.before.before in
        t ∙ sym (both_yes _ q.before.head ∙ both_yes _ p.before.before.spaces ∙ both_yes _ p.before.guests ∙ both_yes _ p.permits ∙ both_no _ (sym entries_said ∙ t))

    pub entries_yes : r ≡ true → EntriesPassed s
    entries_yes t = record { ws = ws; before = p; entries = sym entries_said ∙ t }

-- the frames of live spaces lie inside F, so each has a cell
pub cells_fit : (s : State) → SlotsPassed s → AllFit s.spaces
cells_fit s p = record { at = λ u b. record { inside = λ l. fit u (((slot_decides _ _ _ _).to (every_at _ 32 p.slots u b)).0 l) } }
  where
    fit : (u : ℕ) → LiveFacts s.frames s.next s.guests (space_at s.spaces u) → (space_at s.spaces u).first + (space_at s.spaces u).pages ≤ 512
    fit u x = omega (arith, x.pages, x.inside ((space_at s.spaces u).pages - 1) (omega (arith, x.pages)), ((head_decides s.frames s.next).to p.before.head).frames_high)

-- the cells say the rest
pub cells_say : (s : State) (r : Bool) → EntriesPassed s → r ≡ cells_test s.spaces s.spaces s.cells → r ≡ sound s
unfolding sound
cells_say s r p e =
    let q = p.before.before.before.before in
    e
    ∙ sym (both_yes _ q.before.head ∙ both_yes _ p.before.before.before.spaces ∙ both_yes _ p.before.before.guests ∙ both_yes _ p.before.permits ∙ both_yes _ p.entries)

-- for search: what passed, test by test
pub ruleset passed = (head_yes, slots_yes, tags_yes, apart_yes, guests_yes, permits_yes, entries_yes)
