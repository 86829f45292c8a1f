-- A valid entry by the table of powers: the test is the model's, where the permits may stand. Assumes nothing.
use Prim.Native.Nat.{ℕ, ◌+◌, ◌*◌, ◌<◌}
use mathlib.Core.Bool.{Bool, true, false}
use mathlib.Core.List.{List}
use mathlib.Core.Logic.{⊎_elim}
use mathlib.Core.Path.{◌≡◌, refl, sym, ap, ◌∙◌}
use native.Mathlib.Omega.{arith}
use lib.Dec.{ltb, eqb}
use lib.ListN.{get_or}
use borrow.Author.Tests.{eq-eqb, ne_eqb, ltb-true}
use Rattle.lists.specs.Choice.{choose, both, either}
use Rattle.lists.proofs.Choice.{true_false, not_so, true_or_false, both_yes, both_no, yes!, no!, choose_same}
use Rattle.lists.proofs.Decides.{d_eq, same_by}
use Rattle.model.specs.declared.Grant.{Grant}
use Rattle.model.specs.declared.Grant.TheVariants.{Nothing, Reading, Writing}
use Rattle.model.specs.declared.Guest.{Guest}
use Rattle.model.specs.declared.Permit.{Permit}
use Rattle.model.specs.declared.Right.{Right}
use Rattle.model.specs.declared.Right.TheVariants.{Read, Write}
use Rattle.model.specs.declared.Space.{Space}
use Rattle.model.specs.declared.Standing.{Standing}
use Rattle.model.specs.declared.Standing.TheVariants.{Unused, Valid, Revoked}
use Rattle.model.specs.Changes.{allows}
use Rattle.model.specs.SoundTest.{permits_test, ground_test, standing_test}
use Rattle.model.specs.Tables.{no_space, space_at, live, grant_at}
use Rattle.model.proofs.Searches.{live_of}
use Rattle.model.proofs.SoundTest.{permits_decides}
use Rattle.permitted.specs.Columns.{owner_in, OwnersOf, number_at, PowersOf}
use Rattle.permitted.specs.Elements.{place_of, Owned, grant_number, power_with}
use Rattle.permitted.proofs.Permits.{number_is}
use Rattle.listed.specs.Standings.{right_rank, valid_with, standing_with}

-- a right's rank against a permit's number
rank_is : (g : Grant) (r : Right) → ltb (right_rank r) (grant_number g) ≡ allows g r
unfolding grant_number right_rank allows
rank_is Nothing Read = refl
rank_is Nothing Write = refl
rank_is Reading Read = refl
rank_is Reading Write = refl
rank_is Writing Read = refl
rank_is Writing Write = refl

nothing : (g : Grant) (r : Right) → allows g Read ≡ false → allows g r ≡ false
unfolding allows
nothing Nothing r e = refl
nothing Reading r e = true_false refl e
nothing Writing r e = true_false refl e

rank_two : (r : Right) → ltb (right_rank r) 2 ≡ true
unfolding right_rank
rank_two Read = refl
rank_two Write = refl

-- an owner may do all, another guest what its permit allows; an empty slot has no permits
module _ (gs : List Guest) (ss : List Space) (ps : List Permit) (ts ws : List ℕ) (owners : OwnersOf ss ts) (permitted : permits_test gs ss ps ≡ true) (powers : PowersOf ps ts ws) (k : ℕ) (b : k < 8) where
  abbrev granted : ℕ → Right → Bool
  granted u r = allows (grant_at ps u (k + 1)) r

  -- what the table of powers is to say
  abbrev Ground : ℕ → Right → Bool
  Ground u r = both (live (space_at ss u)) (either (eqb (space_at ss u).owner (k + 1)) (granted u r))

  number_power : (u : ℕ) (r : Right) → ltb (right_rank r) (number_at ps (u * 8 + k)) ≡ granted u r
  number_power u r = ap (ltb (right_rank r)) (number_is ps u k) ∙ rank_is (grant_at ps u (k + 1)) r

  -- an empty slot: no power, and no permit
  module _ (u : ℕ) (l : u < 32) (r : Right) (e : space_at ss u ≡ no_space) (z : owner_in ts u ≡ 0) where
    no_permit_lem : granted u r ≡ false
    no_permit_lem = nothing (grant_at ps u (k + 1)) r (not_so _ (λ y. omega (arith, (((permits_decides gs ss ps).to permitted).basis u (k + 1) l (record { low = omega arith; high = omega arith }) y).live, ap (λ (x : Space). x.id) e)))

    power_none : get_or ws (u * 8 + k) 0 ≡ number_at ps (u * 8 + k)
    unfolding power_with
    power_none = powers.at u k l b ∙ ap (λ x. choose (eqb (place_of (owner_in ts u)) k) x (number_at ps (u * 8 + k))) (yes! _ _ (eq-eqb (owner_in ts u) 0 z)) ∙ choose_same _ _

    empty_is : ltb (right_rank r) (get_or ws (u * 8 + k) 0) ≡ Ground u r
    empty_is = ap (ltb (right_rank r)) power_none ∙ number_power u r ∙ no_permit_lem ∙ sym (both_no _ (ap (λ (x : Space). live x) e))

  -- a space with an owner
  module _ (u : ℕ) (l : u < 32) (r : Right) (w : Owned (space_at ss u)) (o : owner_in ts u ≡ (space_at ss u).owner) where
    place_owner : eqb (place_of (owner_in ts u)) k ≡ eqb (space_at ss u).owner (k + 1)
    place_owner =
        let a = w.low in
        let c = w.high in
        same_by (d_eq (place_of (owner_in ts u)) k) (d_eq (space_at ss u).owner (k + 1)) (λ e. omega arith) (λ e. omega arith)

    power_is : (t : Bool) → eqb (space_at ss u).owner (k + 1) ≡ t → ltb (right_rank r) (get_or ws (u * 8 + k) 0) ≡ either t (granted u r)
    unfolding either power_with
    power_is true q = ap (ltb (right_rank r)) (powers.at u k l b ∙ yes! _ _ (place_owner ∙ q) ∙ no! _ _ (ne_eqb (owner_in ts u) 0 (λ z. let a = w.low in omega arith))) ∙ rank_two r
    power_is false q = ap (ltb (right_rank r)) (powers.at u k l b ∙ no! _ _ (place_owner ∙ q)) ∙ number_power u r

    owned_is : ltb (right_rank r) (get_or ws (u * 8 + k) 0) ≡ Ground u r
    owned_is = power_is _ refl ∙ sym (both_yes _ (live_of (space_at ss u) w.live))

  valid_is : (u : ℕ) (r : Right) → valid_with ws k u r ≡ ground_test ss ps (k + 1) u r
  unfolding valid_with ground_test
  valid_is u r = ⊎_elim inside (λ e. both_no _ e ∙ sym (both_no _ e)) (true_or_false (ltb u 32))
    where
      inside : ltb u 32 ≡ true → valid_with ws k u r ≡ ground_test ss ps (k + 1) u r
      inside e = let l : u < 32 = ltb-true u 32 e in ap (both (ltb u 32)) (⊎_elim (λ h. owned_is u l r h.0 h.1) (λ h. empty_is u l r h.0 h.1) (owners.at u l))

  pub standing_is : (x : Standing) → standing_with ws k x ≡ standing_test ss ps (k + 1) x
  unfolding standing_with standing_test
  standing_is Unused = refl
  standing_is (Valid u r) = valid_is u r
  standing_is Revoked = refl
