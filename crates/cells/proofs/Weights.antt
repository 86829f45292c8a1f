-- What the weight of a cell tells, and the highest of many. Assumes nothing.
use Prim.Native.Nat.{ℕ, zero, suc, max, ◌+◌, ◌≤◌, ◌<◌}
use mathlib.Core.Bool.{Bool, true, false}
use mathlib.Core.Logic.{◌⊎◌, inl, inr, ⊎_elim}
use mathlib.Core.Path.{◌≡◌, refl, ap, ◌∙◌}
use native.Mathlib.Decide.{ℕ_discrete, dec_le}
use native.Mathlib.Omega.{arith}
use lib.Dec.{leb, eqb}
use borrow.Author.Tests.{le-ltb, lt-ltb}
use Rattle.lists.specs.Places.{every, one_if}
use Rattle.lists.proofs.Choice.{yes!, no! }
use Rattle.lists.proofs.Decides.{d_le, d_eq, d_isnt, d_both, d_every, same_by}
use Rattle.model.specs.declared.Cell.{Cell}
use Rattle.model.specs.SoundTest.{blank_test}
use Rattle.cells.specs.Weights.{weight_of, larger, most_of}

-- the larger of two numbers
larger_is : (m n : ℕ) → ((m ≤ n) × (larger m n ≡ n)) ⊎ ((n ≤ m) × (larger m n ≡ m))
unfolding larger
larger_is m n = go (dec_le n m)
  where
    go : Dec (n ≤ m) → ((m ≤ n) × (larger m n ≡ n)) ⊎ ((n ≤ m) × (larger m n ≡ m))
    go (yes l) = inr (l, no! n m (le-ltb m n l))
    go (no l) = inl (omega arith, yes! n m (lt-ltb m n (omega arith)))

larger_left : (m n : ℕ) → m ≤ larger m n
larger_left m n = ⊎_elim (λ (l, e). omega arith) (λ (l, e). omega arith) (larger_is m n)

larger_right : (m n : ℕ) → n ≤ larger m n
larger_right m n = ⊎_elim (λ (l, e). omega arith) (λ (l, e). omega arith) (larger_is m n)

larger_most : (m n b : ℕ) → m ≤ b → n ≤ b → larger m n ≤ b
larger_most m n b p q = ⊎_elim (λ (l, e). omega arith) (λ (l, e). omega arith) (larger_is m n)

pub max_larger : (m n : ℕ) → max m n ≡ larger m n
max_larger m n = ⊎_elim (λ (l, e). omega arith) (λ (l, e). omega arith) (larger_is m n)

-- a mark as a number
unmarked : (m : Bool) → one_if m ≤ 0 → m ≡ false
unfolding one_if
unmarked true l = absurd (omega arith)
unmarked false l = refl

mark_low : (m : Bool) → one_if m ≤ 15
unfolding one_if
mark_low true = omega arith
mark_low false = omega arith

-- 0 of a blank cell and of no other
pub weight_blank : (c : Cell) → eqb (weight_of c) 0 ≡ blank_test c
unfolding weight_of blank_test one_if
weight_blank c = same_by (d_eq (weight_of c) 0) (d_both (d_eq c.key 0) (d_isnt c.mark))
    (λ e. (omega (arith, larger_left c.key (one_if c.mark)), unmarked c.mark (omega (arith, larger_right c.key (one_if c.mark)))))
    (λ (k, m). omega (arith, larger_most c.key (one_if c.mark) 0 (omega arith) (omega (arith, ap one_if m))))

-- above 15 of one whose key is, and of no other
pub weight_key : (c : Cell) → leb (weight_of c) 15 ≡ leb c.key 15
unfolding weight_of
weight_key c = same_by (d_le (weight_of c) 15) (d_le c.key 15)
    (λ l. omega (arith, larger_left c.key (one_if c.mark)))
    (λ l. larger_most c.key (one_if c.mark) 15 l (mark_low c.mark))

-- the highest of many
module _ (f : ℕ → ℕ) where
  pub most_above : (n k : ℕ) → k < n → f k ≤ most_of f n
  unfolding most_of
  most_above zero k l = absurd (omega arith)
  most_above (suc n) k l = go (ℕ_discrete k n) (λ b. most_above n k b)
    where
      go : Dec (k ≡ n) → (k < n → f k ≤ most_of f n) → f k ≤ larger (most_of f n) (f n)
      go (yes e) h = rw e (larger_right (most_of f n) (f n))
      go (no e) h = omega (arith, larger_left (most_of f n) (f n), h (omega arith))

  pub most_least : (n b : ℕ) → ((k : ℕ) → k < n → f k ≤ b) → most_of f n ≤ b
  unfolding most_of
  most_least zero b h = omega arith
  most_least (suc n) b h = larger_most (most_of f n) (f n) b (most_least n b (λ k l. h k (omega arith))) (h n (omega arith))

  pub most_zero : (n : ℕ) → eqb (most_of f n) 0 ≡ every (λ k. eqb (f k) 0) n
  most_zero n = same_by (d_eq (most_of f n) 0) (d_every n (λ k. d_eq (f k) 0))
      (λ e k l. omega (arith, most_above n k l))
      (λ h. omega (arith, most_least n 0 (λ k l. omega (arith, h k l))))

  -- a loop that looks for the highest
  pub most_start : 0 ≡ most_of f 0
  unfolding most_of
  most_start = refl

  pub most_go : (m k y : ℕ) → m ≡ most_of f k → y ≡ max m (f k) → y ≡ most_of f (k + 1)
  unfolding most_of
  most_go m k y e v = let q : k + 1 ≡ suc k = omega arith in rw q (v ∙ max_larger m (f k) ∙ ap (λ x. larger x (f k)) e)

  pub most_end : (m k n : ℕ) → m ≡ most_of f k → k ≤ n → n ≤ k → m ≡ most_of f n
  most_end m k n e l h = let q : k ≡ n = omega arith in rw q at e

pub ruleset mosts = (most_start, most_go, most_end, arith)
