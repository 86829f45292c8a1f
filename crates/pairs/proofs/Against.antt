-- The loops that hold each slot against each other one. Assumes nothing.
use Prim.Native.Nat.{ℕ, ◌+◌, ◌≤◌, ◌<◌}
use mathlib.Core.Bool.{Bool, true, false, not}
use mathlib.Core.List.{List}
use mathlib.Core.Path.{◌≡◌, sym}
use native.Mathlib.Decide.{ℕ_discrete}
use native.Mathlib.Omega.{arith}
use lib.Dec.{eqb}
use Rattle.lists.specs.Choice.{either}
use Rattle.lists.specs.Places.{every}
use Rattle.lists.proofs.Choice.{true_false, not_so}
use Rattle.lists.proofs.Places.{every_at, every_intro}
use Rattle.lists.proofs.Rules.{test_no, test_yes}
use Rattle.model.specs.declared.Space.{Space}
use Rattle.model.specs.SoundTest.{pair_test, apart_test}
use Rattle.model.specs.Tables.{space_at}

abbrev pair_at : List Space → (u v : ℕ) → Bool
pair_at ss u v = either (eqb u v) (pair_test (space_at ss u) (space_at ss v))

-- the slots below u stand apart from every slot, and slot u from those below v
pub record Against (ss : List Space) (u v : ℕ) : Type 0 where
  pub rows : (i j : ℕ) → i < u → j < 32 → pair_at ss i j ≡ true
  pub row : (j : ℕ) → j < v → pair_at ss u j ≡ true

module _ (ss : List Space) where
  pub against_start : Against ss 0 0
  against_start = record { rows = λ i j l b. absurd (omega arith); row = λ j b. absurd (omega arith) }

  module _ (u v : ℕ) (h : Against ss u v) where
    pub against_row : 32 ≤ v → Against ss (u + 1) 0
    against_row l = record { rows = λ i j a b. at i j a b (ℕ_discrete i u); row = λ j b. absurd (omega arith) }
      where
        at : (i j : ℕ) → i < u + 1 → j < 32 → Dec (i ≡ u) → pair_at ss i j ≡ true
        at i j a b (yes e) = rw e (h.row j (omega arith))
        at i j a b (no n) = h.rows i j (omega arith) b

    pub against_done : 32 ≤ u → true ≡ apart_test ss
    unfolding apart_test
    against_done l = sym (every_intro _ 32 (λ i a. every_intro _ 32 (λ j b. h.rows i j (omega arith) b)))

    module _ (r : Bool) (e : r ≡ pair_at ss u v) where
      pub against_go : not r ≡ false → Against ss u (v + 1)
      against_go t = record { rows = h.rows; row = λ j b. at j b (ℕ_discrete j v) }
        where
          at : (j : ℕ) → j < v + 1 → Dec (j ≡ v) → pair_at ss u j ≡ true
          at j b (yes q) = rw q (test_yes r _ e t)
          at j b (no n) = h.row j (omega arith)

      pub against_stop : u < 32 → v < 32 → not r ≡ true → false ≡ apart_test ss
      unfolding apart_test
      against_stop a b t = sym (not_so _ (λ y. true_false (every_at (pair_at ss u) 32 (every_at (λ i. every (pair_at ss i) 32) 32 y u a) v b) (test_no r _ e t)))
