-- A guest that is reset: what the loops have made of the tables is what the model says. Assumes nothing.
use Prim.Native.Nat.{ℕ, ◌+◌, ◌≤◌, ◌<◌}
use mathlib.Core.Bool.{Bool, true, false, not}
use mathlib.Core.List.{List}
use mathlib.Core.Path.{◌≡◌, refl, sym, ap, fun_ext, ◌∙◌}
use native.Mathlib.Decide.{dec_le}
use native.Mathlib.Omega.{arith}
use lib.Dec.{ltb, eqb}
use lib.ListN.{length, get_or, set, get_or-eq_default}
use lib.Seq.{ext_get_or}
use borrow.Author.Tests.{ltb-true, ltb-false, eqb-true, eqb-false, ne_eqb}
use Rattle.lists.specs.Choice.{choose, both, either}
use Rattle.lists.specs.Places.{map_places}
use Rattle.lists.proofs.Choice.{choose_elim, choose_eq, both_right}
use Rattle.lists.proofs.Maps.{map_below, length-map_places, get_or-map_places, map_alike}
use Rattle.lists.proofs.Rules.{map_go}
use Rattle.model.specs.declared.Cell.{Cell}
use Rattle.model.specs.declared.Entry.{Entry}
use Rattle.model.specs.declared.Permit.{Permit}
use Rattle.model.specs.declared.Space.{Space}
use Rattle.model.specs.declared.Standing.{Standing}
use Rattle.model.specs.declared.State.{State}
use Rattle.model.specs.Changes.{released, revoked, list_owner, released_all, vacated, unpermitted, loses, revoked_all, freed, blanked, withdrawn, reset_tables}
use Rattle.model.specs.Leaves.{flag}
use Rattle.model.specs.Searches.{is_owned, is_data}
use Rattle.model.specs.Tables.{no_space, unused_entry, space_at, live, with_spaces, with_permits, with_entries, with_cells}
use Rattle.model.proofs.Reset.{released_revoked}
use Rattle.closing.proofs.Ranges.{map_map}
use Rattle.losses.specs.Looks.{named_slot, look_place, revoked_entry}
use Rattle.losses.proofs.Looks.{revoked_named}
use Rattle.frames.specs.Runs.{slots_of}
use Rattle.withdrawing.specs.Sets.{IsSet, entries_reset}

-- Spaces: each is tested by itself, as if by its slot.
pub spaces_reset : (g : ℕ) (ss t : List Space) → t ≡ map_places (λ u x. choose (is_data g x) no_space x) ss → t ≡ vacated (slots_of (is_data g) ss) ss
unfolding vacated slots_of
spaces_reset g ss t e =
    e
    ∙ ext_get_or no_space _ _ (length-map_places _ ss ∙ sym (length-map_places _ ss)) (λ k b.
    let h : k < length ss = rw (length-map_places (λ u x. choose (is_data g x) no_space x) ss) at b in
    get_or-map_places _ ss k no_space h ∙ sym (get_or-map_places _ ss k no_space h))

-- An entry looks inside the table of slots.
pub look_inside : (x : Standing) (u : ℕ) → u ≡ look_place x → u < 33
unfolding look_place
look_inside x u e =
    rw e
    (choose_elim (λ k. k < 33) (ltb (named_slot x) 32) (named_slot x) 32 (λ l. omega (arith, ltb-true (named_slot x) 32 l)) (λ l. omega arith))

module _ (closed : List Bool) (long : length closed ≡ 33) (last : flag closed 32 ≡ false) where
  -- past the slots the table is false: at its last place, and where it has none
  past : (u : ℕ) → 32 ≤ u → flag closed u ≡ false
  past u h = go (dec_le 33 u)
    where
      go : Dec (33 ≤ u) → flag closed u ≡ false
      go (yes b) = get_or-eq_default closed false {n = u} (omega arith)
      go (no b) = let e : u ≡ 32 = omega arith in rw e last

  -- an entry is revoked by what stands where it looks
  by_place : (e : Entry) → choose (flag closed (look_place e.standing)) (revoked_entry e) e ≡ revoked (flag closed) e
  unfolding look_place
  by_place e = rw (there (named_slot e.standing)) (revoked_named (flag closed) e last)
    where
      there : (u : ℕ) → flag closed (choose (ltb u 32) u 32) ≡ flag closed u
      there u = choose_elim (λ k. flag closed k ≡ flag closed u) (ltb u 32) u 32 (λ _. refl) (λ e. last ∙ sym (past u (ltb-false u 32 e)))

pub reset_one : (closed : List Bool) (own : Bool) (u : ℕ) (e r : Entry) → length closed ≡ 33 → flag closed 32 ≡ false → u ≡ look_place e.standing
    → r ≡ choose own (released e) (choose (flag closed u) (revoked_entry e) e) → r ≡ choose own (released e) (revoked (flag closed) e)
reset_one closed own u e r long last p q = q ∙ ap (choose own (released e)) (rw p (by_place closed long last e))

-- one turn of a loop over entries, whose changed entry is known by a law
pub entries_go : (f : ℕ → Entry → Entry) (l t : List Entry) (i : ℕ) (x : Entry) → t ≡ map_below f i l → x ≡ f i (get_or t i unused_entry) → i < length l → set t i x ≡ map_below f (i + 1) l
entries_go f l t i x = map_go f l t i x unused_entry

pub ruleset looks = (look_inside, reset_one, entries_go)

-- All entries: whether an entry was revoked before it is released makes no difference, and other guests lose all the guest's spaces.
covered : (a b c : Bool) → (a ≡ true → c ≡ true) → either (both a b) (both a c) ≡ a
unfolding either both
covered true true c f = refl
covered true false c f = f refl
covered false b c f = refl

module _ (s : State) (g : ℕ) where
  closed : ℕ → Bool
  closed = slots_of (is_owned g) s.spaces

  others_lose : (h : ℕ) → eqb h g ≡ false → loses s.spaces (slots_of (is_data g) s.spaces) closed h ≡ closed
  unfolding loses slots_of closed
  others_lose h ne = fun_ext (λ u.
      covered (is_owned g (space_at s.spaces u)) _ _ (λ own.
      let o : (space_at s.spaces u).owner ≡ g = eqb-true _ g (both_right (live (space_at s.spaces u)) _ own) in
      ap not (ne_eqb _ h (λ z. eqb-false h g ne (sym z ∙ o)))))

  all_entries : entries_reset g closed s.entries ≡ released_all g (revoked_all (loses s.spaces (slots_of (is_data g) s.spaces) closed) s.entries)
  unfolding entries_reset released_all revoked_all
  all_entries =
      sym
      (map_map _ _ s.entries
      ∙ map_alike _ _ s.entries (λ k e b.
      choose_eq (eqb (list_owner k) g) (λ _. released_revoked _ e) (λ ne. ap (λ t. revoked t e) (others_lose (list_owner k) ne))))

  pub all_reset : (l : List Bool) (x : List Space) (y : List Permit) (z : List Entry) (w : List Cell) → IsSet (slots_of (is_owned g) s.spaces) l
      → x ≡ vacated (slots_of (is_data g) s.spaces) s.spaces → y ≡ unpermitted (flag l) s.permits → z ≡ entries_reset g (flag l) s.entries
      → w ≡ blanked (freed s.spaces s.spaces (slots_of (is_data g) s.spaces)) s.cells → with_cells (with_entries (with_permits (with_spaces s x) y) z) w ≡ reset_tables s g
  unfolding reset_tables withdrawn slots_of closed
  all_reset l x y z w set p q r b = rw (p, q, r, b, fun_ext set.holds, all_entries)
