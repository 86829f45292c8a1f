-- DESTROY, ISOLATE and RESET keep a sound state sound; what stands in the lists after a RESET; and that ISOLATE changes
-- nothing on a private space. Assumes nothing.
use Prim.Native.Nat.{ℕ, ◌+◌, ◌%◌, ◌<◌}
use mathlib.Core.Bool.{Bool, true, false, not}
use mathlib.Core.List.{List}
use mathlib.Core.Logic.{◌≢◌, ◌⊎◌, inl, inr}
use mathlib.Core.Path.{◌≡◌, refl, sym, ap, ◌∙◌}
use native.Mathlib.Omega.{arith}
use lib.Dec.{eqb}
use lib.ListN.{length, get_or}
use borrow.Author.Tests.{eqb-true, eqb-false, eq-eqb, ne_eqb}
use Rattle.lists.specs.Choice.{choose, both}
use Rattle.lists.proofs.Choice.{true_false, not_to, yes!, no!, choose_elim, choose_same, both_left, both_right, both_no, both_not, either_none}
use Rattle.lists.proofs.Maps.{length-map_places, map_at, map_same}
use Rattle.model.specs.declared.Entry.{Entry}
use Rattle.model.specs.declared.Grant.{Grant}
use Rattle.model.specs.declared.Permit.{Permit}
use Rattle.model.specs.declared.Right.{Right}
use Rattle.model.specs.declared.Right.TheVariants.{Read}
use Rattle.model.specs.declared.Standing.{Standing}
use Rattle.model.specs.declared.Standing.TheVariants.{Unused, Valid, Revoked}
use Rattle.model.specs.declared.State.{State}
use Rattle.model.specs.Changes.{allows, released_from, released, revoked_from, revoked, list_owner, permit_slot, released_all, unpermitted, loses, revoked_all, withdrawn, reset_tables}
use Rattle.model.specs.Decision.{Decision, after}
use Rattle.model.specs.Frames.{layout}
use Rattle.model.specs.Granted.{Destroyed, Isolated, ResetDone}
use Rattle.model.specs.Names.{base_name}
use Rattle.model.specs.Searches.{is_owned, is_data, slot_of}
use Rattle.model.specs.Sound.{IsGuest, IsEntry, Sound}
use Rattle.model.specs.Tables.{no_permit, unused_entry, space_at, permit_place, grant_at, entry_place, entry_at, with_entries}
use Rattle.model.proofs.Entries.{list_owner_lem, released_unused, released_small, released_nothing, allows_read, nothing_allowed}
use Rattle.model.proofs.Withdraw.{none_freed, none_vacated, sound_withdrawn}

-- All of guest g's given up: its own are released, those of others stay.
module _ (es : List Entry) (g : ℕ) where
  pub released_length : length (released_all g es) ≡ length es
  unfolding released_all
  released_length = length-map_places _ es

  pub released_entry : (h n : ℕ) → IsGuest h → IsEntry n → entry_at (released_all g es) h n ≡ choose (eqb h g) (released (entry_at es h n)) (entry_at es h n)
  unfolding released_all released released_from
  released_entry h n i e =
      map_at _ es unused_entry (λ k. choose_same (eqb (list_owner k) g) unused_entry) (entry_place h n)
      ∙ ap (λ k. choose (eqb k g) (released (entry_at es h n)) (entry_at es h n)) (list_owner_lem h n i e)

  pub released_own : (n : ℕ) → IsGuest g → IsEntry n → entry_at (released_all g es) g n ≡ released (entry_at es g n)
  released_own n i e = released_entry g n i e ∙ yes! _ _ (eq-eqb g g refl)

  pub released_other : (h n : ℕ) → h ≢ g → IsGuest h → IsEntry n → entry_at (released_all g es) h n ≡ entry_at es h n
  released_other h n ne i e = released_entry h n i e ∙ no! _ _ (ne_eqb h g ne)

  -- one that is valid is another guest's, and was the same
  pub released_valid : (h n u : ℕ) (r : Right) → IsGuest h → IsEntry n → (entry_at (released_all g es) h n).standing ≡ Valid u r → (h ≢ g) × ((entry_at es h n).standing ≡ Valid u r)
  released_valid h n u r i e v =
      choose_elim (λ (x : Entry). x.standing ≡ Valid u r → (h ≢ g) × ((entry_at es h n).standing ≡ Valid u r)) (eqb h g) (released (entry_at es h n)) (entry_at es h n)
      (λ _ f. let z : ◌≡◌ {A = ℕ} 0 1 = cc (released_unused (entry_at es h n)) in absurd (omega arith))
      (λ ne f. (eqb-false h g ne, f)) (rw (released_entry h n i e) at v)

pub sound_released : (s : State) (g : ℕ) → Sound s → Sound (with_entries s (released_all g s.entries))
sound_released s g ok = record {
  head = ok.head;
  spaces = ok.spaces;
  guests = ok.guests;
  permits = ok.permits;
  cells = ok.cells;
  entries = record {
    len = released_length s.entries g ∙ ok.entries.len;
    sequence = λ h n i e.
        let x = entry_at s.entries h n in
        let b = ok.entries.sequence h n i e in
        rw (released_entry s.entries g h n i e) (choose_elim (λ (y : Entry). y.sequence < 256) (eqb h g) (released x) x (λ _. released_small x b) (λ _. b));
    basis = λ h n u r i e v. ok.entries.basis h n u r i e (released_valid s.entries g h n u r i e v).1;
    above = λ h n i e a.
        released_entry s.entries g h n i e ∙ rw (ok.entries.above h n i e a, released_nothing) (choose_same (eqb h g) unused_entry);
  };
}

-- The three calls.
pub sound_destroy : (s : State) (g i : ℕ) (d : Decision) → Sound s → Destroyed s g i d → Sound (after s d)
sound_destroy s g i d ok c =
    let u = slot_of s.spaces i in
    rw c.is (sound_withdrawn s (eqb u) (eqb u) ok (λ v e. e) (λ v e l. rw (← eqb-true u v e) c.not_primary))

pub sound_isolate : (s : State) (g i : ℕ) (d : Decision) → Sound s → Isolated s g i d → Sound (after s d)
sound_isolate s g i d ok c =
    rw c.is (sound_withdrawn s (λ v. false) (eqb (slot_of s.spaces i)) ok (λ v e. true_false e refl) (λ v e l. true_false e refl))

pub sound_reset : (s : State) (g : ℕ) (d : Decision) → Sound s → ResetDone s g d → Sound (after s d)
unfolding reset_tables
sound_reset s g d ok c =
    let gone : ℕ → Bool = λ u. is_data g (space_at s.spaces u) in
    let closed : ℕ → Bool = λ u. is_owned g (space_at s.spaces u) in
    rw c.is (sound_released (withdrawn gone closed s) g
    (sound_withdrawn s gone closed ok (λ u e. both_left (closed u) _ e) (λ u e l. eqb-false _ base_name (not_to _ (both_right (closed u) _ e)))))

-- an entry that was revoked is released like one that was valid
pub released_revoked : (t : ℕ → Bool) (e : Entry) → released (revoked t e) ≡ released e
unfolding released released_from revoked revoked_from
released_revoked t e = go e.standing
  where
    go : (x : Standing) → released_from (revoked_from t x) e.sequence ≡ released_from x e.sequence
    go Unused = refl
    go (Valid u r) = choose_elim (λ y. released_from y e.sequence ≡ released_from (Valid u r) e.sequence) (t u) Revoked (Valid u r) (λ _. refl) (λ _. refl)
    go Revoked = refl

-- a standing that the test spares stays
pub standing_stays : (t : ℕ → Bool) (x : Standing) → ((u : ℕ) (r : Right) → x ≡ Valid u r → t u ≡ false) → revoked_from t x ≡ x
unfolding revoked_from
standing_stays t Unused f = refl
standing_stays t (Valid u r) f = no! Revoked (Valid u r) (f u r refl)
standing_stays t Revoked f = refl

none_revoked : (t : ℕ → Bool) (e : Entry) → ((u : ℕ) (r : Right) → e.standing ≡ Valid u r → t u ≡ false) → revoked t e ≡ e
unfolding revoked
none_revoked t e f = ap (λ x. record { standing = x; sequence = e.sequence }) (standing_stays t e.standing f)

-- "ISOLATE .. On a private space it is done and changes nothing."
module _ (s : State) (u : ℕ) (ok : Sound s) (hidden : (h : ℕ) → IsGuest h → allows (grant_at s.permits u h) Read ≡ false) where
  same_permits : unpermitted (eqb u) s.permits ≡ s.permits
  unfolding unpermitted
  same_permits =
      map_same _ s.permits no_permit (λ k b.
      choose_elim (λ (p : Permit). p ≡ get_or s.permits k no_permit) (eqb u (permit_slot k)) no_permit (get_or s.permits k no_permit)
      (λ e. sym (none k (eqb-true u (permit_slot k) e))) (λ _. refl))
    where
      none : (k : ℕ) → u ≡ permit_slot k → get_or s.permits k no_permit ≡ no_permit
      none k e =
          let q : k ≡ permit_place u (k % 8 + 1) = omega arith in
          rw q (ap (λ (x : Grant). record { grant = x }) (nothing_allowed _ (hidden (k % 8 + 1) (record { low = omega arith; high = omega arith }))))

  -- an entry for it is its owner's, as none is permitted to another
  same_entries : revoked_all (loses s.spaces (λ v. false) (eqb u)) s.entries ≡ s.entries
  unfolding revoked_all loses
  same_entries =
      map_same _ s.entries unused_entry (λ k b. none_revoked _ (get_or s.entries k unused_entry) (λ v r e.
      let q : k ≡ entry_place (list_owner k) (k % 30 + 2) = omega arith in
      let i : IsGuest (list_owner k) = record { low = omega arith; high = omega (arith, ok.entries.len) } in
      let c = ok.entries.basis (list_owner k) (k % 30 + 2) v r i (record { low = omega arith; high = omega arith }) (rw q at e) in
      either_none false _ refl (kept (list_owner k) v r i c.right)))
    where
      kept : (g v : ℕ) (r : Right) → IsGuest g → ((space_at s.spaces v).owner ≡ g) ⊎ (allows (grant_at s.permits v g) r ≡ true) → both (eqb u v) (not (eqb (space_at s.spaces v).owner g)) ≡ false
      kept g v r i (inl o) = both_not (eqb u v) _ (ap not (eq-eqb _ g o))
      kept g v r i (inr a) =
          both_no _ (ne_eqb u v (λ e. true_false (allows_read (grant_at s.permits v g) r a) (rw (← e) (hidden g i))))

pub isolate_private : (s : State) (u : ℕ) → Sound s → u < 32 → ((h : ℕ) → IsGuest h → allows (grant_at s.permits u h) Read ≡ false) → withdrawn (λ v. false) (eqb u) s ≡ s
unfolding withdrawn
isolate_private s u ok _ hidden =
    rw (none_vacated s.spaces, same_permits s u ok hidden, same_entries s u ok hidden, none_freed (layout s) s.spaces s.cells)
