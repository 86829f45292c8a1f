-- One space withdrawn: what the loops over ranges have made of the entries is what the model says. Assumes nothing.
use Prim.Native.Nat.{ℕ, ◌+◌, ◌-◌, ◌*◌, ◌/◌, ◌≤◌, ◌<◌}
use mathlib.Core.Bool.{false, not}
use mathlib.Core.List.{List}
use mathlib.Core.Path.{◌≡◌, refl, sym, ap, fun_ext, ◌∙◌}
use native.Mathlib.Decide.{ℕ_discrete, dec_le}
use native.Mathlib.Omega.{arith}
use lib.Dec.{eqb, leb, ltb}
use lib.ListN.{length, get_or, set}
use borrow.Author.Tests.{eq-eqb, ne_eqb, le-leb, leb-true}
use Rattle.lists.specs.Choice.{choose, both}
use Rattle.lists.specs.Places.{map_places}
use Rattle.lists.proofs.Choice.{true_false, yes!, no!, both_left, both_intro, both_comm, both_yes, both_not, choose_elim}
use Rattle.lists.proofs.Maps.{map_below, map_alike}
use Rattle.model.specs.declared.Entry.{Entry}
use Rattle.model.specs.Changes.{revoked, list_owner, revoked_all}
use Rattle.model.specs.Tables.{unused_entry}
use Rattle.model.proofs.Reset.{standing_stays}
use Rattle.losses.specs.Looks.{kept_list}
use Rattle.closing.specs.Slot.{loses_slot}
use Rattle.closing.proofs.Ranges.{map_map, map_range, before, inside, beyond, Ranged, range_start, range_go, range_length}

-- The entries of all lists but one change.
lists_but : (f : Entry → Entry) (es : List Entry) (kept m n : ℕ) → length es ≡ 240 → m ≡ kept * 30 → 240 ≤ n
    → map_range f (kept * 30 + 30) n (map_range f 0 m es) ≡ map_places (λ j e. choose (eqb (j / 30) kept) e (f e)) es
unfolding map_range map_below
lists_but f es kept m n len q h = map_map _ _ es ∙ map_alike _ _ es (λ j e b. go j e (omega arith) (dec_le (kept * 30) j) (dec_le (kept * 30 + 30) j))
  where
    first : ℕ → Entry → Entry
    first j e = choose (ltb j m) (choose (ltb j 0) e (f e)) e

    second : ℕ → Entry → Entry
    second j e = choose (ltb j n) (choose (ltb j (kept * 30 + 30)) e (f e)) e

    go : (j : ℕ) (e : Entry) → j < 240 → Dec (kept * 30 ≤ j) → Dec (kept * 30 + 30 ≤ j) → second j (first j e) ≡ choose (eqb (j / 30) kept) e (f e)
    go j e b (no l) d =
        before f (kept * 30 + 30) n j (first j e) (omega arith)
        ∙ inside f 0 m j e (omega arith) (omega arith)
        ∙ sym (no! _ _ (ne_eqb (j / 30) kept (λ z. omega arith)))
    go j e b (yes l) (no d) =
        before f (kept * 30 + 30) n j (first j e) (omega arith)
        ∙ beyond f 0 m j e (omega arith)
        ∙ sym (yes! _ _ (eq-eqb (j / 30) kept (omega arith)))
    go j e b (yes l) (yes d) =
        inside f (kept * 30 + 30) n j (first j e) d (omega arith)
        ∙ ap f (beyond f 0 m j e (omega arith))
        ∙ sym (no! _ _ (ne_eqb (j / 30) kept (λ z. omega arith)))

-- The list that is kept is that of the guest whose entries stay.
kept_is : (g k : ℕ) → k < 8 → eqb k (kept_list g) ≡ eqb g (k + 1)
unfolding kept_list
kept_is g k l =
    choose_elim (λ n. eqb k n ≡ eqb g (k + 1)) (both (leb 1 g) (leb g 8)) (g - 1) 8
    (λ t. let low = leb-true 1 g (both_left _ _ t) in place low (ℕ_discrete g (k + 1)))
    (λ f. ne_eqb k 8 (λ z. omega arith) ∙ sym (ne_eqb g (k + 1) (λ z. true_false (both_intro _ _ (le-leb 1 g (omega arith)) (le-leb g 8 (omega arith))) f)))
  where
    place : 1 ≤ g → Dec (g ≡ k + 1) → eqb k (g - 1) ≡ eqb g (k + 1)
    place h (yes e) = eq-eqb k (g - 1) (omega arith) ∙ sym (eq-eqb g (k + 1) e)
    place h (no n) = ne_eqb k (g - 1) (λ z. n (omega arith)) ∙ sym (ne_eqb g (k + 1) n)

none_revoked : (e : Entry) → revoked (λ v. false) e ≡ e
unfolding revoked
none_revoked e = ap (λ x. record { standing = x; sequence = e.sequence }) (standing_stays (λ v. false) e.standing (λ u r z. refl))

-- What the guest of one list loses: it keeps all, or loses the slot.
one_list : (g u h : ℕ) (e : Entry) → choose (eqb g h) e (revoked (eqb u) e) ≡ revoked (loses_slot g u h) e
unfolding loses_slot
one_list g u h e = choose_elim (λ x. x ≡ revoked (λ v. both (eqb u v) (not (eqb g h))) e) (eqb g h) e (revoked (eqb u) e)
    (λ z. sym (ap (λ t. revoked t e) (fun_ext (λ v. both_not (eqb u v) _ (ap not z))) ∙ none_revoked e))
    (λ z. ap (λ t. revoked t e) (fun_ext (λ v. sym (both_comm (eqb u v) _ ∙ both_yes (eqb u v) (ap not z)))))

lists_kept : (g u : ℕ) (es : List Entry) → length es ≡ 240 → map_places (λ j e. choose (eqb (j / 30) (kept_list g)) e (revoked (eqb u) e)) es ≡ revoked_all (loses_slot g u) es
unfolding revoked_all
lists_kept g u es len = map_alike _ _ es (λ j e b. rw (kept_is g (j / 30) (omega arith)) (one_list g u (list_owner j) e))

-- For search: one turn of a loop, and the places that it comes to.
pub entries_go : (u : ℕ) (es t : List Entry) (i k : ℕ) (e : Entry) → Ranged (revoked (eqb u)) i k es t → e ≡ revoked (eqb u) (get_or t k unused_entry) → length es ≡ 240 → k < 240
    → Ranged (revoked (eqb u)) i (k + 1) es (set t k e)
entries_go u es t i k e r q len h = range_go (revoked (eqb u)) i k es t e unused_entry r q (omega arith)

pub entry_inside : (list k : ℕ) → list ≤ 8 → k < list * 30 → k < 240
entry_inside list k h l = omega arith

pub ruleset turns = (range_start, range_length, entries_go, entry_inside)

-- For search: the loops have ended.
pub entries_done : (es a b : List Entry) (g list u m n : ℕ) → length es ≡ 240 → list ≡ kept_list g → Ranged (revoked (eqb u)) 0 m es a → m ≤ list * 30 → list * 30 ≤ m
    → Ranged (revoked (eqb u)) (list * 30 + 30) n a b → 240 ≤ n → b ≡ revoked_all (loses_slot g u) es
entries_done es a b g list u m n len q below l h above e =
    above.same
    ∙ ap (map_range (revoked (eqb u)) (list * 30 + 30) n) below.same
    ∙ lists_but (revoked (eqb u)) es list m n len (omega arith) e
    ∙ ap (λ k. map_places (λ j e. choose (eqb (j / 30) k) e (revoked (eqb u) e)) es) q
    ∙ lists_kept g u es len
