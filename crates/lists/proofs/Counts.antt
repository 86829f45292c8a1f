-- Laws of counting places. Assumes nothing.
use Prim.Native.Nat.{ℕ, zero, suc, ◌+◌, ◌≤◌, ◌<◌}
use mathlib.Core.Bool.{Bool, true, false}
use mathlib.Core.Logic.{◌≢◌}
use mathlib.Core.Path.{◌≡◌, refl, sym, ap, ◌∙◌}
use native.Mathlib.Decide.{ℕ_discrete, dec_le}
use native.Mathlib.Omega.{arith}
use Rattle.lists.specs.Choice.{choose}
use Rattle.lists.specs.Places.{lowest, count, one_if}
use Rattle.lists.proofs.Choice.{yes!, no!, true_false}
use Rattle.lists.proofs.Places.{lowest_least}

-- one turn of a loop that counts
pub count_zero : (p : ℕ → Bool) → count p 0 ≡ 0
unfolding count
count_zero p = refl

pub count_yes : (p : ℕ → Bool) (n : ℕ) → p n ≡ true → count p (n + 1) ≡ count p n + 1
unfolding count
count_yes p n y = let q : n + 1 ≡ suc n = omega arith in rw q (yes! _ _ y)

pub count_no : (p : ℕ → Bool) (n : ℕ) → p n ≡ false → count p (n + 1) ≡ count p n
unfolding count
count_no p n y = let q : n + 1 ≡ suc n = omega arith in rw q (no! _ _ y)

pub count_same : (p q : ℕ → Bool) (n : ℕ) → ((k : ℕ) → k < n → p k ≡ q k) → count p n ≡ count q n
unfolding count
count_same p q zero h = refl
count_same p q (suc n) h = rw (h n (omega arith), count_same p q n (λ k a. h k (omega arith)))

pub count_none : (p : ℕ → Bool) (n : ℕ) → ((k : ℕ) → k < n → p k ≡ false) → count p n ≡ 0
unfolding count
count_none p zero h = refl
count_none p (suc n) h = no! _ _ (h n (omega arith)) ∙ count_none p n (λ k a. h k (omega arith))

-- one turn of a loop that adds 1 or 0
pub count_turn : (p : ℕ → Bool) (n k y : ℕ) → n ≡ count p k → y ≡ one_if (p k) → n + y ≡ count p (k + 1)
unfolding one_if
count_turn p n k y e v = go (p k) refl v
  where
    go : (b : Bool) → p k ≡ b → y ≡ one_if b → n + y ≡ count p (k + 1)
    go true h w = omega (arith, e, w, count_yes p k h)
    go false h w = omega (arith, e, w, count_no p k h)

-- where nothing is counted, no place passes
pub uncounted : (p : ℕ → Bool) (n : ℕ) → count p n ≡ 0 → (k : ℕ) → k < n → p k ≡ false
unfolding count choose
uncounted p zero e k l = absurd (omega arith)
uncounted p (suc n) e k l = go (p n) refl e (ℕ_discrete k n) (λ z m. uncounted p n z k m)
  where
    go : (b : Bool) → p n ≡ b → choose b (count p n + 1) (count p n) ≡ 0 → Dec (k ≡ n) → (count p n ≡ 0 → k < n → p k ≡ false) → p k ≡ false
    go true h z d f = absurd (omega (arith, z))
    go false h z (yes q) f = rw q h
    go false h z (no q) f = f z (omega arith)

pub count_most : (p : ℕ → Bool) (n : ℕ) → count p n ≤ n
unfolding count choose
count_most p zero = omega arith
count_most p (suc n) = go (p n) (count_most p n)
  where
    go : (b : Bool) → count p n ≤ n → choose b (count p n + 1) (count p n) ≤ suc n
    go true h = omega arith
    go false h = omega arith

-- where one test passes the other does
pub count_le : (p q : ℕ → Bool) (n : ℕ) → ((k : ℕ) → k < n → p k ≡ true → q k ≡ true) → count p n ≤ count q n
unfolding count choose
count_le p q zero h = omega arith
count_le p q (suc n) h = go (p n) refl (q n) refl (count_le p q n (λ k a. h k (omega arith)))
  where
    go : (a : Bool) → p n ≡ a → (b : Bool) → q n ≡ b → count p n ≤ count q n → choose a (count p n + 1) (count p n) ≤ choose b (count q n + 1) (count q n)
    go true e true f l = omega arith
    go true e false f l = true_false (h n (omega arith) e) f
    go false e true f l = omega arith
    go false e false f l = l

-- the tests differ at one place
pub count_more : (p q : ℕ → Bool) (n j : ℕ) → j < n → p j ≡ false → q j ≡ true → ((k : ℕ) → k ≢ j → p k ≡ q k) → count q n ≡ count p n + 1
unfolding count choose
count_more p q zero j h a b same = absurd (omega arith)
count_more p q (suc n) j h a b same = go (ℕ_discrete n j) (λ l. count_more p q n j l a b same)
  where
    one : (x y : Bool) → x ≡ y → count q n ≡ count p n + 1 → choose y (count q n + 1) (count q n) ≡ choose x (count p n + 1) (count p n) + 1
    one true true s c = omega arith
    one true false s c = true_false refl s
    one false true s c = true_false refl (sym s)
    one false false s c = c

    go : Dec (n ≡ j) → (j < n → count q n ≡ count p n + 1) → choose (q n) (count q n + 1) (count q n) ≡ choose (p n) (count p n + 1) (count p n) + 1
    go (yes e) f =
        let c : count q n ≡ count p n = count_same q p n (λ k l. sym (same k (λ w. absurd (omega arith)))) in
        yes! _ _ (ap q e ∙ b) ∙ ap (λ x. x + 1) (c ∙ sym (no! _ _ (ap p e ∙ a)))
    go (no ne) f = one (p n) (q n) (same n ne) (f (omega arith))

-- what is counted is found
pub count_found : (p : ℕ → Bool) (n : ℕ) → 1 ≤ count p n → lowest p n < n
count_found p n h = go (dec_le (lowest p n + 1) n)
  where
    none : n ≤ lowest p n → (k : ℕ) → k < n → p k ≡ false
    none l k b = lowest_least p n k (omega arith)

    go : Dec (lowest p n + 1 ≤ n) → lowest p n < n
    go (yes l) = omega arith
    go (no l) = absurd (omega (arith, count_none p n (none (omega arith))))
