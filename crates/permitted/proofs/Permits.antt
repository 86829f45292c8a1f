-- The permits and the powers, by tables of numbers: the tests over these are the model's. Assumes nothing.
use Prim.Native.Nat.{ℕ, ◌+◌, ◌-◌, ◌*◌, ◌/◌, ◌%◌, ◌≤◌, ◌<◌}
use mathlib.Core.Bool.{Bool, true, false, not}
use mathlib.Core.List.{List}
use mathlib.Core.Logic.{inl, inr}
use mathlib.Core.Path.{◌≡◌, refl, sym, ap, ap₂, ◌∙◌}
use native.Mathlib.Omega.{arith}
use lib.Dec.{leb, eqb}
use lib.ListN.{length, get_or}
use borrow.Author.Tests.{eq-eqb, ne_eqb, le-leb}
use Rattle.std.specs.Prelude.{Some, None}
use Rattle.lists.specs.Choice.{choose, both, implies}
use Rattle.lists.proofs.Choice.{both_yes, both_no, both_intro, yes!, no! }
use Rattle.lists.specs.Places.{every}
use Rattle.lists.proofs.Decides.{d_eq, same, same_by}
use Rattle.lists.proofs.Places.{every_at, every_intro, every_same}
use Rattle.model.specs.declared.Grant.{Grant}
use Rattle.model.specs.declared.Grant.TheVariants.{Nothing, Reading, Writing}
use Rattle.model.specs.declared.Guest.{Guest}
use Rattle.model.specs.declared.Permit.{Permit}
use Rattle.model.specs.declared.Right.TheVariants.{Read}
use Rattle.model.specs.declared.Space.{Space}
use Rattle.model.specs.Changes.{allows}
use Rattle.model.specs.Searches.{enrolled}
use Rattle.model.specs.SoundTest.{permit_test, permits_test}
use Rattle.model.specs.Tables.{space_at, live, guest_at, grant_at}
use Rattle.model.proofs.Searches.{live_of}
use Rattle.permitted.specs.Columns.{Filled, guest_on, Owners, owner_in, OwnersOf, number_at, may_at, limit_at, permit_with, permits_with, power_at, Powers, Permits}
use Rattle.permitted.specs.Elements.{Owned, OwnerIs, grant_number, may_be}

-- a permit's number against what may be permitted
within_is : (g : Grant) (t : Bool) → leb (grant_number g) (choose t 2 0) ≡ implies (allows g Read) t
unfolding grant_number choose implies allows
within_is Nothing true = refl
within_is Nothing false = refl
within_is Reading true = refl
within_is Reading false = refl
within_is Writing true = refl
within_is Writing false = refl

-- the same guest, by its place and by its number
other_is : (o k : ℕ) → 1 ≤ o → eqb (o - 1) k ≡ eqb (k + 1) o
other_is o k l = same_by (d_eq (o - 1) k) (d_eq (k + 1) o) (λ e. omega arith) (λ e. omega arith)

turn : (a b c : Bool) → both a (both b c) ≡ both b (both c a)
unfolding both
turn true true true = refl
turn true true false = refl
turn true false c = refl
turn false true true = refl
turn false true false = refl
turn false false c = refl

-- the ground of a permit of slot u for guest k + 1
abbrev Ground : List Guest → Space → ℕ → Bool
Ground gs x k = both (live x) (both (guest_at gs x.owner).share (both (enrolled gs (k + 1)) (not (eqb (k + 1) x.owner))))

module _ (gs : List Guest) (k : ℕ) (b : k < 8) where
  enrolled_at : enrolled gs (k + 1) ≡ (guest_on gs k).enrolled
  unfolding enrolled
  enrolled_at = let q : k + 1 - 1 ≡ k = omega arith in both_yes _ (both_intro _ _ (le-leb 1 (k + 1) (omega arith)) (le-leb (k + 1) 8 (omega arith))) ∙ ap (λ j. (guest_on gs j).enrolled) q

  -- what the table says of an owner is what the ground asks
  may_is : (x : Space) (o : ℕ) → o ≡ x.owner → Owned x → may_at gs (o * 8 + k) ≡ choose (Ground gs x k) 2 0
  unfolding may_be
  may_is x o e w =
      let l = w.low in
      let h = w.high in
      let p : (o * 8 + k) / 8 - 1 ≡ x.owner - 1 = omega arith in
      let r : (o * 8 + k) % 8 ≡ k = omega arith in
      no! 0 _ (ne_eqb ((o * 8 + k) / 8) 0 (λ z. omega arith))
      ∙ ap₂ (λ i j. may_be (guest_on gs i) (guest_on gs j) i j) p r
      ∙ ap (λ t. choose t 2 0) (turn (not (eqb (x.owner - 1) k)) (guest_at gs x.owner).share (guest_on gs k).enrolled
      ∙ ap₂ (λ e t. both (guest_at gs x.owner).share (both e (not t))) (sym enrolled_at) (other_is x.owner k l)
      ∙ sym (both_yes _ (live_of x w.live)))

  -- the row of nobody
  may_none : (o : ℕ) → o ≡ 0 → may_at gs (o * 8 + k) ≡ 0
  may_none o e = yes! 0 _ (eq-eqb ((o * 8 + k) / 8) 0 (omega arith))

  may_ground : (x : Space) (o : ℕ) → OwnerIs x o → may_at gs (o * 8 + k) ≡ choose (Ground gs x k) 2 0
  may_ground x o (inl (w, e)) = may_is x o e w
  may_ground x o (inr (e, z)) = may_none o z ∙ sym (no! 2 0 (ap (λ y. Ground gs y k) e ∙ both_no _ refl))

-- a guest's permit, by its place and by its number
pub number_is : (ps : List Permit) (u k : ℕ) → number_at ps (u * 8 + k) ≡ grant_number (grant_at ps u (k + 1))
number_is ps u k = let q : k ≡ k + 1 - 1 = omega arith in ap (λ j. number_at ps (u * 8 + j)) q

module _ (gs : List Guest) (ss : List Space) (ps : List Permit) (ts : List ℕ) (owners : OwnersOf ss ts) where
  within : (u k : ℕ) → u < 32 → k < 8 → permit_with gs ps ts u k ≡ permit_test gs ss ps u (k + 1)
  unfolding permit_test
  within u k l b =
      ap₂ (λ x y. leb x y) (number_is ps u k) (may_ground gs k b (space_at ss u) (owner_in ts u) (owners.at u l))
      ∙ within_is (grant_at ps u (k + 1)) (Ground gs (space_at ss u) k)

  pub permits_is : length ps ≡ 256 → permits_with gs ps ts ≡ permits_test gs ss ps
  unfolding permits_with permits_test
  permits_is len = every_same _ _ 32 (λ u l. every_same _ _ 8 (λ k b. within u k l b)) ∙ sym (both_yes _ (eq-eqb (length ps) 256 len))

-- what the pass over the permits gives
module _ (gs : List Guest) (ps : List Permit) (ts ns ms ls : List ℕ) (r : Bool) (numbers : Filled ns (number_at ps) 256) (small : Owners ts) (may : Filled ms (may_at gs) 72) (limits : Filled ls (limit_at ms ts) 256) (within : r ≡ every (λ j. leb (get_or ns j 0) (get_or ls j 0)) 256) where
  limit_is : (u k : ℕ) → u < 32 → k < 8 → get_or ls (u * 8 + k) 0 ≡ may_at gs (owner_in ts u * 8 + k)
  limit_is u k l b =
      let p : (u * 8 + k) / 8 ≡ u = omega arith in
      let q : (u * 8 + k) % 8 ≡ k = omega arith in
      limits.at (u * 8 + k) (omega arith)
      ∙ ap₂ (λ v j. get_or ms (owner_in ts v * 8 + j) 0) p q
      ∙ may.at (owner_in ts u * 8 + k) (omega (arith, small.below u l))

  within_permits : r ≡ permits_with gs ps ts
  unfolding permits_with
  within_permits = within ∙ same _ _
      (λ e. every_intro _ 32 (λ u l. every_intro _ 8 (λ k b. sym (place u k l b) ∙ every_at _ 256 e (u * 8 + k) (omega arith))))
      (λ e. every_intro _ 256 (λ j b.
      let q : j / 8 * 8 + j % 8 ≡ j = omega arith in
      rw q at (place (j / 8) (j % 8) (omega arith) (omega arith) ∙ every_at _ 8 (every_at _ 32 e (j / 8) (omega arith)) (j % 8) (omega arith))))
    where
      place : (u k : ℕ) → u < 32 → k < 8 → leb (get_or ns (u * 8 + k) 0) (get_or ls (u * 8 + k) 0) ≡ permit_with gs ps ts u k
      place u k l b = ap₂ (λ x y. leb x y) (numbers.at (u * 8 + k) (omega arith)) (limit_is u k l b)

  pub permits_stop : length ps ≡ 256 → r ≡ false → Permits None gs ps ts
  permits_stop len e = record { long = len; test = sym e ∙ within_permits; table = tt }

  pub permits_done : (ws : List ℕ) → length ps ≡ 256 → r ≡ true → Powers ts ns ws → Permits (Some ws) gs ps ts
  permits_done ws len e powers = record {
    long = len;
    test = sym e ∙ within_permits;
    table = record { at = λ u k l b. powers.at u k l b ∙ ap (power_at ts u k) (numbers.at (u * 8 + k) (omega arith)) };
  }
