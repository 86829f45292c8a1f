-- A loop that counts, of 64 places, those that pass a test, by adding 1 or 0 at each. Assumes nothing.
use Prim.Native.Nat.{ℕ, ◌+◌, ◌≤◌, ◌<◌}
use mathlib.Core.Bool.{Bool, true, false}
use mathlib.Core.Path.{◌≡◌, refl, sym}
use native.Mathlib.Omega.{arith}
use mir.Syntax.{w8}
use mir.Val.{Fits}
use Rattle.lists.specs.Places.{count, one_if}
use Rattle.lists.proofs.Choice.{true_false}
use Rattle.lists.proofs.Counts.{count_zero, count_turn, count_most}

-- n of the places below k pass
pub record Counting (p : ℕ → Bool) (n k : ℕ) : Type 0 where
  pub below : k ≤ 64
  pub counted : n ≡ count p k

pub one_yes : (t : Bool) → t ≡ true → 1 ≡ one_if t
unfolding one_if
one_yes true y = refl
one_yes false y = true_false y refl

pub one_no : (t : Bool) → t ≡ false → 0 ≡ one_if t
unfolding one_if
one_no true y = true_false refl y
one_no false y = refl

one_most : (t : Bool) → one_if t ≤ 1
unfolding one_if
one_most true = omega arith
one_most false = omega arith

module _ (p : ℕ → Bool) where
  pub counting_start : Counting p 0 0
  counting_start = record { below = omega arith; counted = sym (count_zero p) }

  module _ (n k : ℕ) (s : Counting p n k) where
    pub counting_go : (y : ℕ) → k < 64 → y ≡ one_if (p k) → Counting p (n + y) (k + 1)
    counting_go y l v = record { below = omega arith; counted = count_turn p n k y s.counted v }

    -- a counter of eight bits is wide enough
    pub counting_fits : (y : ℕ) → k < 64 → y ≡ one_if (p k) → Fits w8 (n + y)
    counting_fits y l v = record { fits = omega (arith, s.counted, count_most p k, v, one_most (p k)) }

    pub counting_end : 64 ≤ k → n ≡ count p 64
    counting_end l = let q : k ≡ 64 = omega (arith, s.below) in rw q at s.counted

pub ruleset countings = (counting_start, counting_go, counting_fits, counting_end, one_yes, one_no)
