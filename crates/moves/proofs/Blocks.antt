-- What holds of the bytes of a block holds of all before its end, and which place is the first that passes. Assumes nothing.
use Prim.Native.Nat.{ℕ, ◌+◌, ◌-◌, ◌≤◌, ◌<◌}
use mathlib.Core.Bool.{Bool, true, false}
use mathlib.Core.Path.{◌≡◌, sym, subst, ◌∙◌}
use native.Mathlib.Decide.{dec_le}
use native.Mathlib.Omega.{arith}
use mathlib.Core.List.{List}
use lib.ListN.{length, get_or, take, drop}
use Rattle.std.specs.List.{AllWithin}
use Rattle.std.proofs.Common.{get_or-drop, get_or-take, length-take, length-drop}
use Rattle.lists.specs.Places.{lowest_from}
use Rattle.lists.proofs.Places.{lowest_skip, lowest_yes, lowest_end}

-- what holds from a on up to i, and of the n places after it
pub block_more : (P : ℕ → Type 0) (a i n : ℕ) → ((k : ℕ) → a ≤ k → k < i → P k) → ((k : ℕ) → k < n → P (i + k)) → (k : ℕ) → a ≤ k → k < i + n → P k
block_more P a i n before here k x y = go (dec_le i k)
  where
    go : Dec (i ≤ k) → P k
    go (yes l) = let e : i + (k - i) ≡ k = omega arith in subst P e (here (k - i) (omega arith))
    go (no l) = before k x (omega arith)

pub length-rest : (xs : List ℕ) (i : ℕ) → length (take (length xs - i) (drop i xs)) ≡ length xs - i
length-rest xs i = omega (arith, length-take (length xs - i) (drop i xs), length-drop i xs)

-- what holds of the elements from a on up to i, and of the first n of those left from i on
pub rest_more : (P : ℕ → Type 0) (xs : List ℕ) (a i n m : ℕ) → n ≤ m → ((k : ℕ) → a ≤ k → k < i → P (get_or xs k 0)) → AllWithin P (take m (drop i xs)) 0 n → (k : ℕ) → a ≤ k → k < i + n → P (get_or xs k 0)
rest_more P xs a i n m w before here =
    block_more (λ k. P (get_or xs k 0)) a i n before (λ k l. let e : get_or (take m (drop i xs)) k 0 ≡ get_or xs (i + k) 0 = get_or-take m (drop i xs) k 0 (omega arith) ∙ get_or-drop i xs k 0 in subst P e (here k 0 (omega arith) l))

-- the place r passes, or is the end, and none before it passes
pub first_is : (p : ℕ → Bool) (i e r : ℕ) → i ≤ r → r ≤ e → ((k : ℕ) → i ≤ k → k < r → p k ≡ false) → (r < e → p r ≡ true) → r ≡ lowest_from p i (e - i)
first_is p i e r a b before found = sym (skipped ∙ go (dec_le e r))
  where
    to : i + (r - i) ≡ r
    to = omega arith

    skipped : lowest_from p i (e - i) ≡ lowest_from p r (e - r)
    skipped = rw to at (lowest_skip p (r - i) i e (omega arith) (λ k l. before (i + k) (omega arith) (omega arith)))

    go : Dec (e ≤ r) → lowest_from p r (e - r) ≡ r
    go (yes l) = lowest_end p r e l
    go (no l) = lowest_yes p r e (omega arith) (found (omega arith))
