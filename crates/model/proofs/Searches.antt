-- What the searches find. Assumes nothing.
use Prim.Native.Nat.{ℕ, ◌≤◌, ◌<◌}
use mathlib.Core.Bool.{Bool, true, false, not}
use mathlib.Core.List.{List}
use mathlib.Core.Logic.{◌≢◌}
use mathlib.Core.Path.{◌≡◌, refl, sym, ap}
use native.Mathlib.Decide.{dec_le}
use native.Mathlib.Omega.{arith}
use lib.Dec.{eqb, leb}
use lib.ListN.{length, get_or-eq_default}
use borrow.Author.Tests.{eqb-true, eqb-false, eq-eqb, ne_eqb, leb-true, le-leb}
use Rattle.lists.specs.Choice.{both}
use Rattle.lists.specs.Decides.{Decides}
use Rattle.lists.proofs.Choice.{true_false, not_to, not_of, both_left, both_right, both_intro}
use Rattle.lists.proofs.Places.{lowest_holds, lowest_bound}
use Rattle.lists.proofs.Counts.{count_found}
use Rattle.model.specs.declared.Guest.{Guest}
use Rattle.model.specs.declared.Space.{Space}
use Rattle.model.specs.declared.Standing.{Standing}
use Rattle.model.specs.declared.Standing.TheVariants.{Unused, Valid, Revoked}
use Rattle.model.specs.Searches.{enrolled, is_space, is_owned, is_named, is_primary, slot_of, slot_named, primary_slot, primaries, is_unused}
use Rattle.model.specs.Sound.{Live, IsGuest}
use Rattle.model.specs.Tables.{no_space, space_at, live, guest_at}

-- live spaces
pub live_to : (x : Space) → live x ≡ true → 1 ≤ x.id
live_to x e = let n : x.id ≢ 0 = eqb-false x.id 0 (not_to (eqb x.id 0) e) in omega arith

pub live_of : (x : Space) → 1 ≤ x.id → live x ≡ true
live_of x h = not_of (eqb x.id 0) (ne_eqb x.id 0 (λ e. omega arith))

pub d_live : (x : Space) → Decides (live x) (1 ≤ x.id)
d_live x = record { to = live_to x; of = live_of x }

pub not_live : (x : Space) → live x ≡ false → x.id ≡ 0
not_live x e = eqb-true x.id 0 (go (eqb x.id 0) e)
  where
    go : (b : Bool) → not b ≡ false → b ≡ true
    go true f = refl
    go false f = sym f

pub live_slot : (ss : List Space) (u n : ℕ) → length ss ≡ n → Live ss u → u < n
live_slot ss u n len h = go (dec_le n u)
  where
    go : Dec (n ≤ u) → u < n
    go (yes l) = absurd (omega (arith, ap (λ (x : Space). x.id) (get_or-eq_default ss no_space {n = u} (omega arith))))
    go (no l) = omega arith

-- enrolled guests
module _ (gs : List Guest) (g : ℕ) where
  pub enrolled_guest : enrolled gs g ≡ true → IsGuest g
  unfolding enrolled
  enrolled_guest e =
      let r = both_left (both (leb 1 g) (leb g 8)) (guest_at gs g).enrolled e in
      record { low = leb-true 1 g (both_left (leb 1 g) (leb g 8) r); high = leb-true g 8 (both_right (leb 1 g) (leb g 8) r) }

  pub enrolled_is : enrolled gs g ≡ true → (guest_at gs g).enrolled ≡ true
  unfolding enrolled
  enrolled_is e = both_right (both (leb 1 g) (leb g 8)) (guest_at gs g).enrolled e

  pub enrolled_of : IsGuest g → (guest_at gs g).enrolled ≡ true → enrolled gs g ≡ true
  unfolding enrolled
  enrolled_of i e = both_intro _ _ (both_intro _ _ (le-leb 1 g i.low) (le-leb g 8 i.high)) e

-- a space by its identification
module _ (ss : List Space) where
  is_space_to : (i u : ℕ) → is_space i (space_at ss u) ≡ true → Live ss u × ((space_at ss u).id ≡ i)
  is_space_to i u e = (live_to (space_at ss u) (both_left _ _ e), eqb-true _ i (both_right (live (space_at ss u)) _ e))

  pub slot_found : (i : ℕ) → slot_of ss i < 32 → Live ss (slot_of ss i) × ((space_at ss (slot_of ss i)).id ≡ i)
  unfolding slot_of
  slot_found i h = is_space_to i (slot_of ss i) (lowest_holds (λ u. is_space i (space_at ss u)) 32 h)

  -- a space by its owner and name
  is_named_to : (g n u : ℕ) → is_named g n (space_at ss u) ≡ true → Live ss u × ((space_at ss u).owner ≡ g) × ((space_at ss u).name ≡ n)
  is_named_to g n u e =
      let o = both_left (is_owned g (space_at ss u)) (eqb (space_at ss u).name n) e in
      (live_to (space_at ss u) (both_left (live (space_at ss u)) _ o), eqb-true _ g (both_right (live (space_at ss u)) _ o), eqb-true _ n (both_right (is_owned g (space_at ss u)) _ e))

  pub is_named_of : (g n u : ℕ) → Live ss u → (space_at ss u).owner ≡ g → (space_at ss u).name ≡ n → is_named g n (space_at ss u) ≡ true
  is_named_of g n u l o e = both_intro _ _ (both_intro _ _ (live_of (space_at ss u) l) (eq-eqb _ g o)) (eq-eqb _ n e)

  pub named_found : (g n : ℕ) → slot_named ss g n < 32 → Live ss (slot_named ss g n) × ((space_at ss (slot_named ss g n)).owner ≡ g) × ((space_at ss (slot_named ss g n)).name ≡ n)
  unfolding slot_named
  named_found g n h = is_named_to g n (slot_named ss g n) (lowest_holds (λ u. is_named g n (space_at ss u)) 32 h)

  pub named_none : (g n u : ℕ) → 32 ≤ slot_named ss g n → u < 32 → Live ss u → (space_at ss u).owner ≡ g → (space_at ss u).name ≡ n → ⊥
  unfolding slot_named
  named_none g n u h b l o e = omega (arith, lowest_bound (λ v. is_named g n (space_at ss v)) 32 u (is_named_of g n u l o e))

  -- a primary that is counted is found
  pub primary_lt : (g : ℕ) → primaries ss g ≡ 1 → primary_slot ss g < 32
  unfolding primaries primary_slot slot_named
  primary_lt g e = count_found (λ u. is_primary g (space_at ss u)) 32 (omega arith)

-- an unused standing
pub unused_is : (x : Standing) → is_unused x ≡ true → x ≡ Unused
unfolding is_unused
unused_is Unused e = refl
unused_is (Valid u r) e = true_false refl (sym e)
unused_is Revoked e = true_false refl (sym e)
