-- Slots whose marks don't clash anywhere in the ring stand apart. Assumes nothing.
use Prim.Native.Nat.{ℕ, ◌+◌, ◌-◌, ◌≤◌, ◌<◌}
use mathlib.Core.Bool.{true}
use mathlib.Core.List.{List}
use mathlib.Core.Logic.{◌≢◌}
use mathlib.Core.Path.{◌≡◌, sym, ◌∙◌}
use native.Mathlib.Decide.{ℕ_discrete, dec_le}
use native.Mathlib.Omega.{arith}
use lib.Dec.{eqb}
use borrow.Author.Tests.{eqb-true, eq-eqb}
use Rattle.lists.specs.Choice.{either}
use Rattle.lists.proofs.Choice.{either_left, either_right}
use Rattle.lists.proofs.Places.{every_intro}
use Rattle.model.specs.declared.Space.{Space}
use Rattle.model.specs.SoundTest.{pair_test, apart_test}
use Rattle.model.specs.Tables.{space_at}
use Rattle.apart.specs.declared.quick.Columns.{Columns}
use Rattle.apart.specs.Rings.{Ring, ids_of, names_of, firsts_of, ends_of}
use Rattle.apart.specs.Warns.{Warns, Below, Clear, ClearAt, ClearIn}
use Rattle.apart.proofs.Marks.{marks_apart}
use Rattle.apart.proofs.Rings.{Filling, ring_end}

module _ (ss : List Space) where
  -- nothing clashes in the marks of two slots
  abbrev ClearOf : (u v : ℕ) → Type 0
  ClearOf = Clear (ids_of ss) (names_of ss) (firsts_of ss) (ends_of ss)

  clear_back : (u v : ℕ) → ClearOf u v → ClearOf v u
  clear_back u v c = record { id = λ e. c.id (sym e); name = λ e. c.name (sym e); frames = λ p q. c.frames q p }

  apart_of : (u v : ℕ) → ClearOf u v → pair_test (space_at ss u) (space_at ss v) ≡ true
  apart_of u v c = marks_apart (space_at ss u) (space_at ss v) u v c.id c.name c.frames

  module _ (c : Columns) (ri : Ring (ids_of ss) 32 c.ids) (rn : Ring (names_of ss) 32 c.names) (rf : Ring (firsts_of ss) 32 c.firsts) (re : Ring (ends_of ss) 32 c.ends) where
    near : (u v : ℕ) → u < 32 → v < 32 → ClearIn c u v → ClearOf u v
    near u v l m w = record {
      id = λ e. w.id (ri.near u l ∙ e ∙ sym (ri.near v m));
      name = λ e. w.name (rn.near u l ∙ e ∙ sym (rn.near v m));
      frames = λ p q. w.frames (rw (rf.near u l, re.near v m) p) (rw (rf.near v m, re.near u l) q);
    }

    far : (u v : ℕ) → u < 32 → v < 32 → ClearIn c u (v + 32) → ClearOf u v
    far u v l m w = record {
      id = λ e. w.id (ri.near u l ∙ e ∙ sym (ri.far v m));
      name = λ e. w.name (rn.near u l ∙ e ∙ sym (rn.far v m));
      frames = λ p q. w.frames (rw (rf.near u l, re.far v m) p) (rw (rf.far v m, re.near u l) q);
    }

    module _ (h : Below 16 (λ d. ClearAt c (d + 1))) where
      -- from the lower slot on if the other is near, from the higher one round the ring if not
      up : (u v : ℕ) → u < v → v < 32 → ClearOf u v
      up u v l m = go (dec_le (v - u) 16)
        where
          go : Dec (v - u ≤ 16) → ClearOf u v
          go (yes b) =
              let q : u + (v - u - 1 + 1) ≡ v = omega arith in
              near u v (omega arith) m (rw q at (h (v - u - 1) (omega arith) u (omega arith)))
          go (no b) =
              let q : v + (31 - (v - u) + 1) ≡ u + 32 = omega arith in
              clear_back v u (far v u m (omega arith) (rw q at (h (31 - (v - u)) (omega arith) v m)))

      clear : (u v : ℕ) → u < 32 → v < 32 → u ≢ v → ClearOf u v
      clear u v l m n = go (dec_le u v)
        where
          go : Dec (u ≤ v) → ClearOf u v
          go (yes b) = up u v (omega (arith, n)) m
          go (no b) = clear_back v u (up v u (omega arith) l)

      all_apart : apart_test ss ≡ true
      unfolding apart_test
      all_apart = every_intro _ 32 (λ u l. every_intro _ 32 (λ v m. pair u v l m (ℕ_discrete u v)))
        where
          pair : (u v : ℕ) → u < 32 → v < 32 → Dec (u ≡ v) → either (eqb u v) (pair_test (space_at ss u) (space_at ss v)) ≡ true
          pair u v l m (yes e) = either_left _ _ (eq-eqb u v e)
          pair u v l m (no n) = either_right _ _ (apart_of u v (clear u v l m n))

-- the whole test, by its count over the columns that were filled
pub none_apart : (ss : List Space) (c : Columns) (u n : ℕ) → Filling (ids_of ss) u c.ids → Filling (names_of ss) u c.names → Filling (firsts_of ss) u c.firsts → Filling (ends_of ss) u c.ends → 32 ≤ u → Warns (Below 16 (λ d. ClearAt c (d + 1))) 1536 n → eqb n 0 ≡ true → apart_test ss ≡ true
none_apart ss c u n i k f e l w z = all_apart ss c (ring_end _ c.ids u l i) (ring_end _ c.names u l k) (ring_end _ c.firsts u l f) (ring_end _ c.ends u l e) (w.none (eqb-true n 0 z))
