-- The bytes of a name after the first, taken one at a time; and one comparison for all that is left. Assumes nothing.
use Prim.Native.Nat.{ℕ, ◌/◌, ◌%◌}
use mathlib.Core.Bool.{Bool, true, false}
use mathlib.Core.List.{List, [], ◌∷◌}
use mathlib.Core.Path.{◌≡◌, refl, sym, ◌∙◌}
use native.Mathlib.Decide.{ℕ_discrete}
use native.Mathlib.Omega.{arith}
use lib.Dec.{eqb}
use borrow.Author.Tests.{eq-eqb, ne_eqb, eqb-true, le-leb, lt-leb}
use Rattle.lists.specs.Choice.{both}
use Rattle.lists.proofs.Choice.{not_so, both_left, both_right, both_intro, yes!, no! }
use Rattle.lists.proofs.Rules.{and_go, and_stop, and_true, and_false, and_late, test_no, test_yes}
use Rattle.model.specs.Names.{blanks, name_rest}
use Rattle.names.specs.Later.{later_byte}

pub rest_go : (x : Bool) (b : ℕ) (bs : List ℕ) → later_byte b ≡ true → x ≡ name_rest bs → x ≡ name_rest (b ∷ bs)
unfolding name_rest later_byte
rest_go x b bs y e = e ∙ sym (yes! (name_rest bs) (blanks (b ∷ bs)) y)

pub rest_stop : (x : Bool) (b : ℕ) (bs : List ℕ) → later_byte b ≡ false → x ≡ blanks (b ∷ bs) → x ≡ name_rest (b ∷ bs)
unfolding name_rest later_byte
rest_stop x b bs y e = e ∙ sym (no! (name_rest bs) (blanks (b ∷ bs)) y)

pub rest_end : true ≡ name_rest []
unfolding name_rest
rest_end = refl

-- x ≡ y says that the byte u is blank and what z ≡ w says of the bytes after it
more : (x y u z w : ℕ) (bs : List ℕ) → eqb z w ≡ blanks bs → (x ≡ y → (u ≡ 32) × (z ≡ w)) → (u ≡ 32 → z ≡ w → x ≡ y) → eqb x y ≡ blanks (u ∷ bs)
unfolding blanks
more x y u z w bs p f g = go (ℕ_discrete x y)
  where
    go : Dec (x ≡ y) → eqb x y ≡ both (eqb u 32) (blanks bs)
    go (yes e) = eq-eqb x y e ∙ sym (both_intro _ _ (eq-eqb u 32 (f e).0) (sym p ∙ eq-eqb z w (f e).1))
    go (no n) = ne_eqb x y n ∙ sym (not_so _ (λ h. n (g (eqb-true u 32 (both_left _ _ h)) (eqb-true z w (p ∙ both_right (eqb u 32) _ h)))))

-- the last bytes of n, one of them, two, .., seven: blank
module _ (n : ℕ) where
  pub blank_1 : eqb (n % 256) 32 ≡ blanks (n % 256 ∷ [])
  unfolding blanks
  blank_1 = more (n % 256) 32 _ 0 0 [] refl (λ e. (e, refl)) (λ e _. e)

  pub blank_2 : eqb (n % 65536) 8224 ≡ blanks (n / 256 % 256 ∷ n % 256 ∷ [])
  blank_2 = more (n % 65536) 8224 (n / 256 % 256) (n % 256) 32 _ blank_1 (λ e. (omega arith, omega arith)) (λ e f. omega arith)

  pub blank_3 : eqb (n % 16777216) 2105376 ≡ blanks (n / 65536 % 256 ∷ n / 256 % 256 ∷ n % 256 ∷ [])
  blank_3 = more (n % 16777216) 2105376 (n / 65536 % 256) (n % 65536) 8224 _ blank_2 (λ e. (omega arith, omega arith)) (λ e f. omega arith)

  pub blank_4 : eqb (n % 4294967296) 538976288 ≡ blanks (n / 16777216 % 256 ∷ n / 65536 % 256 ∷ n / 256 % 256 ∷ n % 256 ∷ [])
  blank_4 = more (n % 4294967296) 538976288 (n / 16777216 % 256) (n % 16777216) 2105376 _ blank_3 (λ e. (omega arith, omega arith)) (λ e f. omega arith)

  pub blank_5 : eqb (n % 1099511627776) 137977929760 ≡ blanks (n / 4294967296 % 256 ∷ n / 16777216 % 256 ∷ n / 65536 % 256 ∷ n / 256 % 256 ∷ n % 256 ∷ [])
  blank_5 = more (n % 1099511627776) 137977929760 (n / 4294967296 % 256) (n % 4294967296) 538976288 _ blank_4 (λ e. (omega arith, omega arith)) (λ e f. omega arith)

  pub blank_6 : eqb (n % 281474976710656) 35322350018592 ≡ blanks (n / 1099511627776 % 256 ∷ n / 4294967296 % 256 ∷ n / 16777216 % 256 ∷ n / 65536 % 256 ∷ n / 256 % 256 ∷ n % 256 ∷ [])
  blank_6 = more (n % 281474976710656) 35322350018592 (n / 1099511627776 % 256) (n % 1099511627776) 137977929760 _ blank_5 (λ e. (omega arith, omega arith)) (λ e f. omega arith)

  pub blank_7 : eqb (n % 72057594037927936) 9042521604759584 ≡ blanks (n / 281474976710656 % 256 ∷ n / 1099511627776 % 256 ∷ n / 4294967296 % 256 ∷ n / 16777216 % 256 ∷ n / 65536 % 256 ∷ n / 256 % 256 ∷ n % 256 ∷ [])
  blank_7 = more (n % 72057594037927936) 9042521604759584 (n / 281474976710656 % 256) (n % 281474976710656) 35322350018592 _ blank_6 (λ e. (omega arith, omega arith)) (λ e f. omega arith)

-- for search: the tests of good_name_by and good_end, one byte at a time
pub ruleset rests = (and_go, and_stop, and_true, and_false, and_late, le-leb, lt-leb, test_no, test_yes, rest_go, rest_stop, rest_end, blank_1, blank_2, blank_3, blank_4, blank_5, blank_6, blank_7)
