-- Laws of tests and searches over places. Assumes nothing.
use Prim.Native.Nat.{ℕ, zero, suc, ◌+◌, ◌-◌, ◌≤◌, ◌<◌}
use mathlib.Core.Bool.{Bool, true, false}
use mathlib.Core.Path.{◌≡◌, refl, ap, ◌∙◌}
use native.Mathlib.Decide.{dec_le}
use native.Mathlib.Omega.{arith}
use Rattle.lists.specs.Choice.{both}
use Rattle.lists.specs.Places.{all_from, every, lowest_from, lowest}
use Rattle.lists.proofs.Choice.{both_left, both_right, both_yes, both_no, true_false}

-- all_from: at each place, and one turn of a loop that goes from i to e
pub all_at : (p : ℕ → Bool) (i n : ℕ) → all_from p i n ≡ true → (k : ℕ) → i ≤ k → k < i + n → p k ≡ true
unfolding all_from
all_at p i zero h k a b = absurd (omega arith)
all_at p i (suc n) h k a b = go (λ l. all_at p (i + 1) n (both_right (p i) _ h) k l (omega arith)) (dec_le (i + 1) k)
  where
    go : (i + 1 ≤ k → p k ≡ true) → Dec (i + 1 ≤ k) → p k ≡ true
    go f (yes l) = f l
    go f (no l) = let q : k ≡ i = omega arith in rw q (both_left (p i) _ h)

pub all_intro : (p : ℕ → Bool) (i n : ℕ) → ((k : ℕ) → i ≤ k → k < i + n → p k ≡ true) → all_from p i n ≡ true
unfolding all_from
all_intro p i zero h = refl
all_intro p i (suc n) h =
    both_yes _ (h i (omega arith) (omega arith)) ∙ all_intro p (i + 1) n (λ k a b. h k (omega arith) (omega arith))

all_turn : (p : ℕ → Bool) (i e : ℕ) → i < e → all_from p i (e - i) ≡ both (p i) (all_from p (i + 1) (e - (i + 1)))
unfolding all_from
all_turn p i e h = let q : e - i ≡ suc (e - (i + 1)) = omega arith in rw q

pub all_yes : (p : ℕ → Bool) (i e : ℕ) → i < e → p i ≡ true → all_from p i (e - i) ≡ all_from p (i + 1) (e - (i + 1))
all_yes p i e h y = all_turn p i e h ∙ both_yes _ y

pub all_no : (p : ℕ → Bool) (i e : ℕ) → i < e → p i ≡ false → all_from p i (e - i) ≡ false
all_no p i e h y = all_turn p i e h ∙ both_no _ y

pub all_end : (p : ℕ → Bool) (i e : ℕ) → e ≤ i → all_from p i (e - i) ≡ true
unfolding all_from
all_end p i e h = let q : e - i ≡ 0 = omega arith in rw q

pub every_at : (p : ℕ → Bool) (n : ℕ) → every p n ≡ true → (k : ℕ) → k < n → p k ≡ true
unfolding every
every_at p n h k l = all_at p 0 n h k (omega arith) (omega arith)

pub every_intro : (p : ℕ → Bool) (n : ℕ) → ((k : ℕ) → k < n → p k ≡ true) → every p n ≡ true
unfolding every
every_intro p n h = all_intro p 0 n (λ k a b. h k (omega arith))

pub every_same : (p q : ℕ → Bool) (n : ℕ) → ((k : ℕ) → k < n → p k ≡ q k) → every p n ≡ every q n
unfolding every all_from
every_same p q n h = go 0 n (λ k a b. h k (omega arith))
  where
    go : (i m : ℕ) → ((k : ℕ) → i ≤ k → k < i + m → p k ≡ q k) → all_from p i m ≡ all_from q i m
    go i zero f = refl
    go i (suc m) f = rw (f i (omega arith) (omega arith), go (i + 1) m (λ k a b. f k (omega arith) (omega arith)))

-- lowest_from: what it finds, that nothing lies below it, and one turn of a loop from i to e
module _ (p : ℕ → Bool) where
  abbrev next : Bool → ℕ → ℕ → ℕ
  next b i r = elim b as (λ _. ℕ) [ true ↦ i | false ↦ r ]

  pub lowest_from_le : (i n : ℕ) → lowest_from p i n ≤ i + n
  unfolding lowest_from
  lowest_from_le i zero = omega arith
  lowest_from_le i (suc n) = go (p i) (lowest_from_le (i + 1) n)
    where
      go : (b : Bool) → lowest_from p (i + 1) n ≤ i + 1 + n → next b i (lowest_from p (i + 1) n) ≤ i + suc n
      go true h = omega arith
      go false h = omega arith

  pub lowest_from_holds : (i n : ℕ) → lowest_from p i n < i + n → p (lowest_from p i n) ≡ true
  unfolding lowest_from
  lowest_from_holds i zero h = absurd (omega arith)
  lowest_from_holds i (suc n) h = go (p i) refl h (λ l. lowest_from_holds (i + 1) n l)
    where
      go : (b : Bool) → p i ≡ b → next b i (lowest_from p (i + 1) n) < i + suc n → (lowest_from p (i + 1) n < i + 1 + n → p (lowest_from p (i + 1) n) ≡ true)
          → p (next b i (lowest_from p (i + 1) n)) ≡ true
      go true e l f = e
      go false e l f = f (omega arith)

  pub lowest_from_least : (i n k : ℕ) → i ≤ k → k < lowest_from p i n → p k ≡ false
  unfolding lowest_from
  lowest_from_least i zero k l h = absurd (omega arith)
  lowest_from_least i (suc n) k l h = go (p i) refl h (λ a b. lowest_from_least (i + 1) n k a b) (dec_le (i + 1) k)
    where
      go : (b : Bool) → p i ≡ b → k < next b i (lowest_from p (i + 1) n) → (i + 1 ≤ k → k < lowest_from p (i + 1) n → p k ≡ false) → Dec (i + 1 ≤ k) → p k ≡ false
      go true e m f d = absurd (omega arith)
      go false e m f (yes d) = f d m
      go false e m f (no d) = let q : k ≡ i = omega arith in rw q e

  lowest_turn : (i e : ℕ) → i < e → lowest_from p i (e - i) ≡ next (p i) i (lowest_from p (i + 1) (e - (i + 1)))
  unfolding lowest_from
  lowest_turn i e h = let q : e - i ≡ suc (e - (i + 1)) = omega arith in rw q

  pub lowest_yes : (i e : ℕ) → i < e → p i ≡ true → lowest_from p i (e - i) ≡ i
  lowest_yes i e h y = lowest_turn i e h ∙ ap (λ b. next b i (lowest_from p (i + 1) (e - (i + 1)))) y

  pub lowest_no : (i e : ℕ) → i < e → p i ≡ false → lowest_from p i (e - i) ≡ lowest_from p (i + 1) (e - (i + 1))
  lowest_no i e h y = lowest_turn i e h ∙ ap (λ b. next b i (lowest_from p (i + 1) (e - (i + 1)))) y

  pub lowest_end : (i e : ℕ) → e ≤ i → lowest_from p i (e - i) ≡ i
  unfolding lowest_from
  lowest_end i e h = let q : e - i ≡ 0 = omega arith in rw q

  -- many turns at once
  pub lowest_skip : (m i e : ℕ) → i + m ≤ e → ((k : ℕ) → k < m → p (i + k) ≡ false) → lowest_from p i (e - i) ≡ lowest_from p (i + m) (e - (i + m))
  lowest_skip zero i e h none = let q : i + 0 ≡ i = omega arith in rw q
  lowest_skip (suc m) i e h none = go (lowest_skip m i e (omega arith) (λ k l. none k (omega arith))) (lowest_no (i + m) e (omega arith) (none m (omega arith)))
    where
      go : lowest_from p i (e - i) ≡ lowest_from p (i + m) (e - (i + m)) → lowest_from p (i + m) (e - (i + m)) ≡ lowest_from p (i + m + 1) (e - (i + m + 1))
          → lowest_from p i (e - i) ≡ lowest_from p (i + suc m) (e - (i + suc m))
      go a b = let q : i + suc m ≡ i + m + 1 = omega arith in rw q (a ∙ b)

  pub lowest_le : (n : ℕ) → lowest p n ≤ n
  unfolding lowest
  lowest_le n = omega (arith, lowest_from_le 0 n)

  pub lowest_holds : (n : ℕ) → lowest p n < n → p (lowest p n) ≡ true
  unfolding lowest
  lowest_holds n h = lowest_from_holds 0 n (omega arith)

  pub lowest_least : (n k : ℕ) → k < lowest p n → p k ≡ false
  unfolding lowest
  lowest_least n k h = lowest_from_least 0 n k (omega arith) h

  -- a place that passes is not below the lowest
  pub lowest_bound : (n k : ℕ) → p k ≡ true → lowest p n ≤ k
  lowest_bound n k y = go (dec_le (lowest p n) k)
    where
      go : Dec (lowest p n ≤ k) → lowest p n ≤ k
      go (yes l) = l
      go (no l) = true_false y (lowest_least n k (omega arith))

  -- no place passes; or one does, and none below it
  pub lowest_none : (n : ℕ) → ((i : ℕ) → i < n → p i ≡ false) → lowest p n ≡ n
  lowest_none n h = go (dec_le n (lowest p n))
    where
      go : Dec (n ≤ lowest p n) → lowest p n ≡ n
      go (yes l) = omega (arith, lowest_le n)
      go (no l) = true_false (lowest_holds n (omega arith)) (h (lowest p n) (omega arith))

  pub lowest_is : (n k : ℕ) → k < n → p k ≡ true → ((i : ℕ) → i < k → p i ≡ false) → lowest p n ≡ k
  lowest_is n k b y h = go (dec_le k (lowest p n))
    where
      go : Dec (k ≤ lowest p n) → lowest p n ≡ k
      go (yes l) = omega (arith, lowest_bound n k y)
      go (no l) = true_false (lowest_holds n (omega arith)) (h (lowest p n) (omega arith))
