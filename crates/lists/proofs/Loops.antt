-- Loops that test places from i up to n. Assumes nothing.
use Prim.Native.Nat.{ℕ, ◌+◌, ◌-◌, ◌≤◌, ◌<◌}
use mathlib.Core.Bool.{Bool, true, false}
use mathlib.Core.Path.{◌≡◌, refl, sym, ap, ◌∙◌}
use native.Mathlib.Omega.{arith}
use borrow.Author.Tests.{eq-eqb, ne_eqb, le-leb, lt-leb}
use Rattle.lists.specs.Places.{all_from, every}
use Rattle.lists.proofs.Places.{all_yes, all_no, all_end}
use Rattle.lists.proofs.Rules.{test_no, test_yes, is_of}

-- what is left to test says what the whole test x says
pub record Left (x : Bool) (p : ℕ → Bool) (i n : ℕ) : Type 0 where
  pub all : x ≡ all_from p i (n - i)

pub left_every : (p : ℕ → Bool) (n : ℕ) → Left (every p n) p 0 n
unfolding every
left_every p n = record { all = ap (all_from p 0) (omega arith) }

pub left_from : (p : ℕ → Bool) (i n : ℕ) → Left (all_from p i (n - i)) p i n
left_from p i n = record { all = refl }

module _ (x : Bool) (p : ℕ → Bool) (i n : ℕ) (t : Left x p i n) where
  pub left_go : i < n → p i ≡ true → Left x p (i + 1) n
  left_go l y = record { all = t.all ∙ all_yes p i n l y }

  pub left_stop : i < n → p i ≡ false → false ≡ x
  left_stop l y = sym (t.all ∙ all_no p i n l y)

  pub left_done : n ≤ i → true ≡ x
  left_done l = sym (t.all ∙ all_end p i n l)

  -- an inner loop, as one test of the outer one
  pub left_false : i < n → p i ≡ false → x ≡ false
  left_false l y = t.all ∙ all_no p i n l y

  pub left_true : n ≤ i → x ≡ true
  left_true l = t.all ∙ all_end p i n l

pub ruleset lefts = (left_every, left_from, left_go, left_stop, left_done, left_false, left_true, test_no, test_yes, is_of, eq-eqb, ne_eqb, le-leb, lt-leb)
