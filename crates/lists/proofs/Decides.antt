-- Booleans with their meanings, put together as the Booleans are. Assumes nothing.
use Prim.Native.Nat.{ℕ, ◌+◌, ◌-◌, ◌≤◌, ◌<◌}
use mathlib.Core.Bool.{Bool, true, false, not}
use mathlib.Core.Logic.{◌⊎◌, inl, inr, ⊎_elim}
use mathlib.Core.Path.{◌≡◌, refl, sym}
use native.Mathlib.Decide.{dec_le}
use native.Mathlib.Omega.{arith}
use lib.Dec.{leb, ltb, eqb}
use borrow.Author.Tests.{eqb-true, ltb-true, leb-true, eq-eqb, le-leb, lt-ltb}
use Rattle.lists.specs.Choice.{both, either, implies, choose}
use Rattle.lists.specs.Decides.{Decides}
use Rattle.lists.specs.Places.{every, lowest, some}
use Rattle.lists.proofs.Choice.{true_false, not_so, not_to, both_left, both_right, both_intro, either_to, either_left, either_right, implies_to, implies_of, yes!, no!, choose_elim}
use Rattle.lists.proofs.Places.{every_at, every_intro, lowest_holds, lowest_bound}

abbrev pub d_le : (m n : ℕ) → Decides (leb m n) (m ≤ n)
d_le m n = record { to = leb-true m n; of = le-leb m n }

abbrev pub d_lt : (m n : ℕ) → Decides (ltb m n) (m < n)
d_lt m n = record { to = ltb-true m n; of = lt-ltb m n }

abbrev pub d_eq : (m n : ℕ) → Decides (eqb m n) (m ≡ n)
d_eq m n = record { to = eqb-true m n; of = eq-eqb m n }

abbrev pub d_is : (b : Bool) → Decides b (b ≡ true)
d_is b = record { to = λ e. e; of = λ e. e }

abbrev pub d_isnt : (b : Bool) → Decides (not b) (b ≡ false)
d_isnt b = record { to = not_to b; of = λ e. rw e }

module _ {a b : Bool} {P Q : Type 0} (p : Decides a P) (q : Decides b Q) where
  abbrev pub d_both : Decides (both a b) (P × Q)
  d_both = record {
    to = λ e. (p.to (both_left a b e), q.to (both_right a b e));
    of = λ h. both_intro a b (p.of h.0) (q.of h.1);
  }

  abbrev pub d_either : Decides (either a b) (P ⊎ Q)
  d_either = record {
    to = λ e. ⊎_elim (λ x. inl (p.to x)) (λ y. inr (q.to y)) (either_to a b e);
    of = λ h. ⊎_elim (λ x. either_left a b (p.of x)) (λ y. either_right a b (q.of y)) h;
  }

  abbrev pub d_implies : Decides (implies a b) (P → Q)
  d_implies = record {
    to = λ e h. q.to (implies_to a b e (p.of h));
    of = λ f. implies_of a b (λ x. q.of (f (p.to x)));
  }

-- a choice by a test, where each side is decided under what the test says
abbrev pub d_if : (t : Bool) {a b : Bool} {P Q : Type 0} → (t ≡ true → Decides a P) → (t ≡ false → Decides b Q) → Decides (choose t a b) ((t ≡ true → P) × (t ≡ false → Q))
d_if t {a} {b} p q = record {
  to = λ e. ((λ y. (p y).to (rw (yes! a b y) at e)), (λ n. (q n).to (rw (no! a b n) at e)));
  of = λ h. choose_elim (λ x. x ≡ true) t a b (λ y. (p y).of (h.0 y)) (λ n. (q n).of (h.1 n));
}

abbrev pub d_not : {b : Bool} {P : Type 0} → Decides b P → Decides (not b) (P → ⊥)
d_not {b} {P} p = record {
  to = λ e h. true_false (p.of h) (not_to b e);
  of = λ n. rw (not_so b (λ e. n (p.to e)));
}

-- the same test of another statement that says as much
abbrev pub d_map : {b : Bool} {P Q : Type 0} → (P → Q) → (Q → P) → Decides b P → Decides b Q
d_map f g p = record { to = λ e. f (p.to e); of = λ h. p.of (g h) }

abbrev pub d_every : (n : ℕ) {f : ℕ → Bool} {P : ℕ → Type 0} → ((k : ℕ) → Decides (f k) (P k)) → Decides (every f n) ((k : ℕ) → k < n → P k)
d_every n {f} {P} p = record {
  to = λ e k h. (p k).to (every_at f n e k h);
  of = λ h. every_intro f n (λ k l. (p k).of (h k l));
}

abbrev pub d_some : (n : ℕ) {f : ℕ → Bool} {P : ℕ → Type 0} → ((k : ℕ) → Decides (f k) (P k)) → Decides (some f n) ((k : ℕ) × (k < n) × P k)
unfolding some
d_some n {f} {P} p = record {
  to = λ e. let b = ltb-true (lowest f n) n e in (lowest f n, b, (p (lowest f n)).to (lowest_holds f n b));
  of = λ (k, b, h). lt-ltb (lowest f n) n (omega (arith, lowest_bound f n k ((p k).of h)));
}

-- numbers from m on, tested at the places from 0 on
abbrev pub d_from : (m n : ℕ) {f : ℕ → Bool} {P : ℕ → Type 0} → ((k : ℕ) → Decides (f k) (P (k + m))) → Decides (every f n) ((i : ℕ) → m ≤ i → i < m + n → P i)
d_from m n p = d_map
    (λ h i l u. let e : i ≡ i - m + m = omega arith in rw e (h (i - m) (omega arith)))
    (λ h k l. h (k + m) (omega arith) (omega arith))
    (d_every n p)

-- two tests that say the same are the same
pub same : (a b : Bool) → (a ≡ true → b ≡ true) → (b ≡ true → a ≡ true) → a ≡ b
same true b f g = sym (f refl)
same false b f g = sym (not_so b (λ e. true_false (g e) refl))

-- by what they decide
pub same_by : {a b : Bool} {P Q : Type 0} → Decides a P → Decides b Q → (P → Q) → (Q → P) → a ≡ b
same_by {a} {b} p q f g = same a b (λ e. q.of (f (p.to e))) (λ e. p.of (g (q.to e)))

-- one place more
module _ (p : ℕ → Bool) (n : ℕ) where
  pub every_more : every p (n + 1) ≡ both (every p n) (p n)
  every_more = same_by
      (d_every (n + 1) (λ k. d_is (p k)))
      (d_both (d_every n (λ k. d_is (p k))) (d_is (p n)))
      (λ h. ((λ k b. h k (omega arith)), h n (omega arith)))
      (λ h k b. go h k b (dec_le n k))
    where
      go : ((k : ℕ) → k < n → p k ≡ true) × (p n ≡ true) → (k : ℕ) → k < n + 1 → Dec (n ≤ k) → p k ≡ true
      go h k b (yes l) = let q : k ≡ n = omega arith in rw q h.1
      go h k b (no l) = h.0 k (omega arith)

  pub some_more : some p (n + 1) ≡ either (some p n) (p n)
  some_more = same_by
      (d_some (n + 1) (λ k. d_is (p k)))
      (d_either (d_some n (λ k. d_is (p k))) (d_is (p n)))
      (λ (k, b, e). apart k b e (dec_le n k)) together
    where
      apart : (k : ℕ) → k < n + 1 → p k ≡ true → Dec (n ≤ k) → ((k : ℕ) × (k < n) × (p k ≡ true)) ⊎ (p n ≡ true)
      apart k b e (yes h) = inr (let q : n ≡ k = omega arith in rw q e)
      apart k b e (no h) = inl (k, omega arith, e)

      together : ((k : ℕ) × (k < n) × (p k ≡ true)) ⊎ (p n ≡ true) → (k : ℕ) × (k < n + 1) × (p k ≡ true)
      together (inl (k, b, e)) = (k, omega arith, e)
      together (inr e) = (n, omega arith, e)
