-- Laws of the first elements of a list: how many there are, what is kept of them, how they are put back, and what is left behind
-- them. Assumes nothing.
use Prim.Native.Nat.{ℕ, zero, suc, min, ◌+◌, ◌≤◌, ◌<◌}
use mathlib.Core.List.{List, [], ◌∷◌, ◌++◌, append-nil}
use mathlib.Core.Path.{◌≡◌, refl, sym, ap, ◌∙◌}
use native.Mathlib.Decide.{dec_le}
use native.Mathlib.Numerals.{add-one}
use native.Mathlib.Omega.{arith}
use lib.Dec.{leb, eqb}
use lib.ListN.{length, get_or, take, drop, replicate, take-append-drop, drop_of_length-le}
use lib.Seq.{take_all, take_at, drop-cons, length-take-le}
use borrow.Author.Tests.{le-leb, lt-leb, eq-eqb, ne_eqb}
use Rattle.lists.specs.Bytes.{over}

module _ {A : Type 0} where
  pub no_elements : (l : List A) → length l ≡ 0 → l ≡ []
  no_elements [] e = refl
  no_elements (x ∷ l) e = absurd (omega arith)

  pub take_replicate : (k n : ℕ) (x : A) → k ≤ n → take k (replicate n x) ≡ replicate k x
  take_replicate zero n x h = refl
  take_replicate (suc k) zero x h = absurd (omega arith)
  take_replicate (suc k) (suc n) x h = ap (λ l. x ∷ l) (take_replicate k n x (omega arith))

  -- a list has n elements where its first n are n
  pub take_enough : (n : ℕ) (l : List A) → leb n (length l) ≡ eqb (length (take n l)) n
  take_enough n l = go (dec_le n (length l))
    where
      go : Dec (n ≤ length l) → leb n (length l) ≡ eqb (length (take n l)) n
      go (yes h) = le-leb n (length l) h ∙ sym (eq-eqb _ n (length-take-le n l h))
      go (no h) =
          let e : length (take n l) ≡ length l = ap length (take_all n l (omega arith)) in
          lt-leb n (length l) (omega arith) ∙ sym (ne_eqb _ n (λ z. omega arith))

  -- no more of a list can be taken than it has
  pub take_least : (l : List A) (k n : ℕ) → n ≡ min (length l) k → take n l ≡ take k l
  take_least l k n e = go (dec_le (length l) k)
    where
      go : Dec (length l ≤ k) → take n l ≡ take k l
      go (yes h) = take_all n l (omega arith) ∙ sym (take_all k l h)
      go (no h) = let q : n ≡ k = omega arith in rw q

  -- what is left from a place inside: the element there, and what follows it
  pub drop_next : (l : List A) (i : ℕ) (d : A) → i < length l → drop i l ≡ get_or l i d ∷ drop (i + 1) l
  drop_next l i d h = rw (add-one i, drop-cons l i d)

  -- what is kept of a list that comes in two parts
  pub take_kept : (n : ℕ) (x y : List A) → take n (take n x ++ y) ≡ take n (x ++ y)
  take_kept zero x y = refl
  take_kept (suc n) [] y = refl
  take_kept (suc n) (a ∷ x) y = ap (λ l. a ∷ l) (take_kept n x y)

  -- the first elements of a list, put back into it as they were, and after a change
  pub over_same : (n : ℕ) (l : List A) → over l 0 (take n l) ≡ l
  unfolding over
  over_same n l = go (dec_le n (length l))
    where
      go : Dec (n ≤ length l) → take n l ++ drop (0 + length (take n l)) l ≡ l
      go (yes h) =
          let e : 0 + length (take n l) ≡ n = omega (arith, length-take-le n l h) in
          ap (λ k. take n l ++ drop k l) e ∙ take-append-drop n l
      go (no h) =
          let q : take n l ≡ l = take_all n l (omega arith) in
          ap (λ x. x ++ drop (0 + length x) l) q
          ∙ ap (λ x. x ++ drop (0 + length l) l) (sym (take_all (0 + length l) l (omega arith)))
          ∙ take-append-drop (0 + length l) l

  pub take_back : (n : ℕ) (l x : List A) → length x ≡ length (take n l) → take n (over l 0 x) ≡ x
  unfolding over
  take_back n l x e = go (dec_le n (length l))
    where
      go : Dec (n ≤ length l) → take n (x ++ drop (0 + length x) l) ≡ x
      go (yes h) = take_at x _ n (e ∙ length-take-le n l h)
      go (no h) =
          let q : length x ≡ length l = e ∙ ap length (take_all n l (omega arith)) in
          rw (drop_of_length-le l {i = 0 + length x} (omega arith), append-nil x) (take_all n x (omega arith))
