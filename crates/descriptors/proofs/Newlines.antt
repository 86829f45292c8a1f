-- Newlines in joined texts, and a loop that counts them. Assumes nothing.
use Prim.Native.Nat.{ℕ, ◌+◌, ◌≤◌}
use mathlib.Core.Bool.{Bool, true, false}
use mathlib.Core.List.{List, [], ◌∷◌, ◌++◌}
use mathlib.Core.Path.{◌≡◌, refl}
use Rattle.std.proofs.Common.{cond}
use Rattle.std.specs.List.{count_by}
use Rattle.std.proofs.lemmas.List.Recursion.{is_count_by}
use native.Mathlib.Omega.{arith}
use lib.Dec.{eqb}
use lib.ListN.{length}
use Rattle.lists.specs.Places.{one_if}
use Rattle.descriptors.specs.Came.{newlines}

one_most : (t : Bool) → one_if t ≤ 1
unfolding one_if
one_most true = omega arith
one_most false = omega arith

pub newlines_most : (l : List ℕ) → newlines l ≤ length l
unfolding newlines
newlines_most [] = omega arith
newlines_most (b ∷ bs) = omega (arith, one_most (eqb b 10), newlines_most bs)

pub newlines_append : (x y : List ℕ) → newlines (x ++ y) ≡ newlines x + newlines y
unfolding newlines
newlines_append [] y = omega arith
newlines_append (b ∷ x) y = let k = newlines_append x y in omega (arith, k)

step : (t : Bool) (n : ℕ) → one_if t + n ≡ cond t (1 + n) n
unfolding one_if
step true n = omega arith
step false n = omega arith

none_in : newlines [] ≡ 0
unfolding newlines
none_in = refl

one_more : (b : ℕ) (bs : List ℕ) → newlines (b ∷ bs) ≡ cond (eqb b 10) (1 + newlines bs) (newlines bs)
unfolding newlines
one_more b bs = step (eqb b 10) (newlines bs)

pub newlines_counted : (l : List ℕ) → newlines l ≡ count_by (λ b. eqb b 10) l
newlines_counted = is_count_by newlines (λ b. eqb b 10) none_in one_more
