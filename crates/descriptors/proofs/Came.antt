-- What a call came to, test by test. A number with a sign that is passed on is read back from its bits. Assumes nothing.
use Rattle.std.proofs.Common.{◌≡◌, ℕ, min, ◌+◌, ◌-◌, ◌≤◌, Bool, true, false, eqb, ℤ, pos, negsuc, Option, None, Some, Result, Ok, Err, refl, sym, ap, ◌∙◌, subst, arith, w32, w64, to_z, of_z}
use Rattle.std.specs.Int.{FitsUnsignedBits}
use Rattle.std.specs.Result.{OkIff, result_unwrap_or}
use native.Mathlib.Nat.{min-le_right}
use borrow.Author.Tests.{eq-eqb, ne_eqb}
use lib.IntN.{nat_abs}
use lib.Signed.{nat_abs-le}
use mir.Val.{SFits}
use mir.ValLaws.{to_z-of_z}
use Rattle.lists.specs.Choice.{choose}
use Rattle.lists.proofs.Choice.{yes!, no! }
use Rattle.descriptors.specs.declared.Stopped.{Stopped}
use Rattle.descriptors.specs.declared.Stopped.TheVariants.{Interrupted, Failed}
use Rattle.descriptors.specs.Came.{error_of, came_of, read_as, written_as, got_of, moved_of, bytes_got, place_of}

-- a call that moved bytes, or none
came_ok : (answer error : ℤ) (n m most : ℕ) → FitsUnsignedBits 64 answer × (n ≡ nat_abs answer) → m ≡ min n most → Ok m ≡ came_of answer error most
unfolding came_of
came_ok (pos k) error n m most d e = ap Ok (e ∙ ap (λ (x : ℕ). min x most) d.1)
came_ok (negsuc k) error n m most d e = absurd d.0

-- a call that failed
came_interrupted : (answer error : ℤ) (most : ℕ) → SFits w64 answer → (FitsUnsignedBits 64 answer → ⊥) → error ≡ pos 4 → Err Interrupted ≡ came_of answer error most
unfolding came_of error_of
came_interrupted (pos k) error most f n e = absurd (n (omega (arith, nat_abs-le (pos k) f.sfits)))
came_interrupted (negsuc k) error most f n e = sym (yes! _ _ (eq-eqb _ _ (ap error_of e)))

error_shown : {E : Type 0} (error : ℤ) (v : ℕ) (r : Result ℕ E) → SFits w32 error → OkIff r (FitsUnsignedBits 32 error) (nat_abs error) → v ≡ result_unwrap_or r 0 → v ≡ error_of error
unfolding error_of
error_shown (pos n) v (Ok x) f o e = e ∙ o.1
error_shown (pos n) v (Err x) f o e = absurd (o (omega (arith, nat_abs-le (pos n) f.sfits)))
error_shown (negsuc n) v (Ok x) f o e = absurd o.0
error_shown (negsuc n) v (Err x) f o e = e

error_other : (error : ℤ) → (error ≡ pos 4 → ⊥) → error_of error ≡ 4 → ⊥
unfolding error_of
error_other (pos n) h e = h (ap pos e)
error_other (negsuc n) h e = omega arith

came_failed : {E : Type 0} (answer error : ℤ) (v most : ℕ) (r : Result ℕ E) → SFits w64 answer → SFits w32 error → (FitsUnsignedBits 64 answer → ⊥) → (error ≡ pos 4 → ⊥)
    → OkIff r (FitsUnsignedBits 32 error) (nat_abs error) → v ≡ result_unwrap_or r 0 → Err (Failed v) ≡ came_of answer error most
unfolding came_of
came_failed (pos k) error v most r f g n h o e = absurd (n (omega (arith, nat_abs-le (pos k) f.sfits)))
came_failed (negsuc k) error v most r f g n h o e =
    ap (λ (x : ℕ). Err (Failed x)) (error_shown error v r g o e) ∙ sym (no! _ _ (ne_eqb _ _ (error_other error h)))

-- the same of numbers that are read back from their bits
module _ {answer error : ℤ} (f : SFits w64 answer) (g : SFits w32 error) where
  four : of_z w32 error ≡ 4 → error ≡ pos 4
  four e = sym (to_z-of_z w32 error g) ∙ ap (to_z w32) e

  pub moved_bytes : (n m most : ℕ) → FitsUnsignedBits 64 (to_z w64 (of_z w64 answer)) × (n ≡ nat_abs (to_z w64 (of_z w64 answer))) → m ≡ min n most → Ok m ≡ came_of answer error most
  moved_bytes n m most d = came_ok answer error n m most (subst (λ (x : ℤ). FitsUnsignedBits 64 x × (n ≡ nat_abs x)) (to_z-of_z w64 answer f) d)

  module _ (n : FitsUnsignedBits 64 (to_z w64 (of_z w64 answer)) → ⊥) where
    unfit : FitsUnsignedBits 64 answer → ⊥
    unfit = subst (λ (x : ℤ). FitsUnsignedBits 64 x → ⊥) (to_z-of_z w64 answer f) n

    pub moved_interrupted : (most : ℕ) → of_z w32 error ≡ 4 → Err Interrupted ≡ came_of answer error most
    moved_interrupted most e = came_interrupted answer error most f unfit (four e)

    pub moved_none : {E : Type 0} (r : Result ℕ E) (v most : ℕ) → (of_z w32 error ≡ 4 → ⊥)
        → OkIff r (FitsUnsignedBits 32 (to_z w32 (of_z w32 error))) (nat_abs (to_z w32 (of_z w32 error))) → v ≡ result_unwrap_or r 0 → Err (Failed v) ≡ came_of answer error most
    moved_none r v most h o e =
        came_failed answer error v most r f g unfit (λ k. h (ap (of_z w32) k)) (subst (λ (x : ℤ). OkIff r (FitsUnsignedBits 32 x) (nat_abs x)) (to_z-of_z w32 error g) o) e

  -- what a callee says of numbers that it was passed holds of the numbers
  pub came_so : (r : Result ℕ Stopped) (most : ℕ) → r ≡ came_of (to_z w64 (of_z w64 answer)) (to_z w32 (of_z w32 error)) most → r ≡ came_of answer error most
  came_so r most e =
      e ∙ (ap (λ (x : ℤ). came_of x (to_z w32 (of_z w32 error)) most) (to_z-of_z w64 answer f) ∙ ap (λ (x : ℤ). came_of answer x most) (to_z-of_z w32 error g))

-- what is moved is no more than there is
refused : (t : Bool) (e most n : ℕ) → Ok n ≡ choose t (Err Interrupted) (Err (Failed e)) → n ≤ most
unfolding choose
refused true e most n q = cc
refused false e most n q = cc

pub came_most : (answer error : ℤ) (most n : ℕ) → Ok n ≡ came_of answer error most → n ≤ most
unfolding came_of
came_most (pos k) error most n e = let q : n ≡ min k most = cc in omega (arith, min-le_right k most)
came_most (negsuc k) error most n e = refused _ (error_of error) most n e

got_chosen : (t : Bool) (n most : ℕ) → n ≤ most → bytes_got (Ok (choose t None (Some n))) ≤ most
unfolding choose bytes_got
got_chosen true n most l = omega arith
got_chosen false n most l = l

got_in : (answer error : ℤ) (most : ℕ) (r : Result ℕ Stopped) → r ≡ came_of answer error most → bytes_got (read_as r) ≤ most
unfolding read_as bytes_got
got_in answer error most (Ok n) e = got_chosen (eqb n 0) n most (came_most answer error most n e)
got_in answer error most (Err s) e = omega arith

pub got_within : (answer error : ℤ) (most : ℕ) (g : Result (Option ℕ) Stopped) → g ≡ got_of answer error most → bytes_got g ≤ most
got_within answer error most g e = subst (λ (x : Result (Option ℕ) Stopped). bytes_got x ≤ most) (sym e) (got_in answer error most _ refl)

moved_in : (answer error : ℤ) (size at : ℕ) (r : Result ℕ Stopped) → at ≤ size → r ≡ came_of answer error (size - at) → place_of at (written_as at r) ≤ size
unfolding written_as place_of
moved_in answer error size at (Ok n) l e = let k = came_most answer error (size - at) n e in omega arith
moved_in answer error size at (Err Interrupted) l e = l
moved_in answer error size at (Err (Failed x)) l e = l

pub moved_within : (answer error : ℤ) (size at : ℕ) (m : Result ℕ ℕ) → at ≤ size → m ≡ moved_of answer error size at → place_of at m ≤ size
moved_within answer error size at m l e = subst (λ (x : Result ℕ ℕ). place_of at x ≤ size) (sym e) (moved_in answer error size at _ l refl)

-- what the code makes of it
pub read_end : (r : Result ℕ Stopped) (n : ℕ) → Ok n ≡ r → n ≡ 0 → Ok None ≡ read_as r
unfolding read_as
read_end r n e z = ap (λ (t : Option ℕ). Ok t) (sym (yes! None (Some n) (eq-eqb _ _ z))) ∙ ap read_as e

pub read_bytes : (r : Result ℕ Stopped) (n : ℕ) → Ok n ≡ r → (n ≡ 0 → ⊥) → Ok (Some n) ≡ read_as r
unfolding read_as
read_bytes r n e z = ap (λ (t : Option ℕ). Ok t) (sym (no! None (Some n) (ne_eqb _ _ z))) ∙ ap read_as e

pub read_none : (r : Result ℕ Stopped) (s : Stopped) → Err s ≡ r → Err s ≡ read_as r
unfolding read_as
read_none r s e = ap read_as e

module _ (at : ℕ) (r : Result ℕ Stopped) where
  pub written_on : (n : ℕ) → Ok n ≡ r → Ok (at + n) ≡ written_as at r
  unfolding written_as
  written_on n e = ap (written_as at) e

  pub written_interrupted : (s : Stopped) → Err s ≡ r → s ≡ Interrupted → Ok at ≡ written_as at r
  unfolding written_as
  written_interrupted s e i = ap (λ (x : Stopped). written_as at (Err x)) (sym i) ∙ ap (written_as at) e

  pub written_failed : (s : Stopped) (x : ℕ) → Err s ≡ r → s ≡ Failed x → Err x ≡ written_as at r
  unfolding written_as
  written_failed s x e i = ap (λ (y : Stopped). written_as at (Err y)) (sym i) ∙ ap (written_as at) e

-- the number that a case holds
pub got_count : {most n : ℕ} {g : Option ℕ} → g ≡ Some n → bytes_got (Ok g) ≤ most → n ≤ most
unfolding bytes_got
got_count e l = rw e at l
