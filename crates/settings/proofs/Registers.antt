-- A test of all elements of a list, as a test of every place. Assumes nothing.
use Prim.Native.Nat.{ℕ, zero, suc, ◌<◌}
use mathlib.Core.Bool.{Bool, true, false}
use mathlib.Core.List.{List, [], ◌∷◌}
use mathlib.Core.Path.{◌≡◌, refl, ap, ◌∙◌}
use native.Mathlib.Omega.{arith}
use lib.ListN.{length, get_or}
use Rattle.std.specs.Prelude.{◌&&◌}
use Rattle.std.specs.List.{list_all}
use Rattle.lists.specs.Places.{every}
use Rattle.lists.proofs.Choice.{true_false}
use Rattle.lists.proofs.Decides.{same}
use Rattle.lists.proofs.Places.{every_at, every_intro}

module _ (p : ℕ → Bool) where
  to : (xs : List ℕ) → list_all p xs ≡ true → (k : ℕ) → k < length xs → p (get_or xs k 0) ≡ true
  to [] e k l = absurd (omega arith)
  to (x ∷ xs) e k l = go k l (p x) refl e (to xs)
    where
      go : (k : ℕ) → k < suc (length xs) → (t : Bool) → p x ≡ t → t && list_all p xs ≡ true → (list_all p xs ≡ true → (j : ℕ) → j < length xs → p (get_or xs j 0) ≡ true) → p (get_or (x ∷ xs) k 0) ≡ true
      go zero l true q h f = q
      go (suc k) l true q h f = f h k (omega arith)
      go k l false q h f = true_false h refl

  of : (xs : List ℕ) → ((k : ℕ) → k < length xs → p (get_or xs k 0) ≡ true) → list_all p xs ≡ true
  of [] f = refl
  of (x ∷ xs) f = ap (λ t. t && list_all p xs) (f 0 (omega arith)) ∙ of xs (λ k l. f (suc k) (omega arith))

  pub every_list_all : (xs : List ℕ) (n : ℕ) → length xs ≡ n → list_all p xs ≡ every (λ k. p (get_or xs k 0)) n
  every_list_all xs n e = same _ _ (λ h. every_intro _ n (λ k l. to xs h k (omega arith))) (λ h. of xs (λ k l. every_at _ n h k (omega arith)))
