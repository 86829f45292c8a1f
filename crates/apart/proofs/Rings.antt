-- Loops that write the marks of each slot twice. Assumes nothing.
use Prim.Native.Nat.{ℕ, ◌+◌, ◌≤◌, ◌<◌}
use mathlib.Core.List.{List}
use mathlib.Core.Path.{◌≡◌, sym, ap, ◌∙◌}
use native.Mathlib.Omega.{arith}
use lib.ListN.{length, get_or, set, length-set}
use Rattle.lists.proofs.Maps.{at_set}
use Rattle.apart.specs.Rings.{Ring}

-- a column of which the marks of the first n slots are written
pub record Filling (f : ℕ → ℕ) (n : ℕ) (c : List ℕ) : Type 0 where
  pub below : n ≤ 32
  pub ring : Ring f n c

module _ (f : ℕ → ℕ) (c : List ℕ) where
  pub ring_start : length c ≡ 64 → Filling f 0 c
  ring_start e = record {
    below = omega arith;
    ring = record { long = e; near = λ u l. absurd (omega arith); far = λ u l. absurd (omega arith) };
  }

  pub ring_end : (n : ℕ) → 32 ≤ n → Filling f n c → Ring f 32 c
  ring_end n l h = record { long = h.ring.long; near = λ u b. h.ring.near u (omega arith); far = λ u b. h.ring.far u (omega arith) }

  module _ (n m : ℕ) (l : n < 32) (e : m ≡ f n) (h : Filling f n c) where
    -- the first of the two writes
    once : (u k : ℕ) → k < 64 → (k ≡ n → m ≡ f u) → ((k ≡ n → ⊥) → get_or c k 0 ≡ f u) → get_or (set c n m) k 0 ≡ f u
    once u k b = at_set (λ y. y ≡ f u) c n m k 0 (omega (arith, h.ring.long))

    len : length (set c n m) ≡ 64
    len = length-set c n m ∙ h.ring.long

    twice : (u k : ℕ) → k < 64 → (k ≡ n + 32 → m ≡ f u) → ((k ≡ n + 32 → ⊥) → get_or (set c n m) k 0 ≡ f u) → get_or (set (set c n m) (n + 32) m) k 0 ≡ f u
    twice u k b = at_set (λ y. y ≡ f u) (set c n m) (n + 32) m k 0 (omega (arith, len))

    both_set : Filling f (n + 1) (set (set c n m) (n + 32) m)
    both_set = record {
      below = omega arith;
      ring = record {
        long = length-set (set c n m) (n + 32) m ∙ len;
        near = λ u b. twice u u (omega arith) (λ q. absurd (omega arith)) (λ _. once u u (omega arith) (λ q. e ∙ ap f (sym q)) (λ q. h.ring.near u (omega arith)));
        far = λ u b. twice u (u + 32) (omega arith) (λ q. e ∙ ap f (omega arith)) (λ q. once u (u + 32) (omega arith) (λ p. absurd (omega arith)) (λ _. h.ring.far u (omega arith)));
      };
    }

    pub ring_go : (t : List ℕ) → t ≡ set (set c n m) (n + 32) m → Filling f (n + 1) t
    ring_go t q = rw (← q) at both_set
