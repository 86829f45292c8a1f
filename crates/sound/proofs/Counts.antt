-- The loop that counts the tags. Assumes nothing.
use Prim.Native.Nat.{ℕ, zero, suc, ◌+◌, ◌%◌, ◌≤◌, ◌<◌}
use mathlib.Core.Bool.{Bool, true, false}
use mathlib.Core.List.{List}
use mathlib.Core.Path.{◌≡◌, refl, sym, ap, ◌∙◌}
use native.Mathlib.Omega.{arith}
use lib.Dec.{eqb}
use lib.ListN.{length, get_or, set, length-set, replicate, get_or-replicate}
use mir.Syntax.{w8}
use mir.Val.{Fits}
use borrow.Author.Tests.{eq-eqb, ne_eqb}
use Rattle.lists.specs.Choice.{choose}
use Rattle.lists.specs.Places.{count}
use Rattle.lists.proofs.Counts.{count_zero, count_yes, count_no}
use Rattle.lists.proofs.Maps.{at_set}
use Rattle.permitted.specs.Columns.{Filled}
use Rattle.sound.specs.Columns.{tag_count}

-- a table of counts, when i slots are counted
pub record Counting (ts ns : List ℕ) (i : ℕ) : Type 0 where
  pub long : length ns ≡ 32
  pub below : i ≤ 32
  pub at : (t : ℕ) → t < 32 → get_or ns t 0 ≡ tag_count ts i t

count_most : (p : ℕ → Bool) (n : ℕ) → count p n ≤ n
unfolding count choose
count_most p zero = omega arith
count_most p (suc n) = go (p n) (count_most p n)
  where
    go : (b : Bool) → count p n ≤ n → choose b (count p n + 1) (count p n) ≤ suc n
    go true h = omega arith
    go false h = omega arith

module _ (ts : List ℕ) where
  abbrev has : (tag slot : ℕ) → Bool
  has t u = eqb (get_or ts u 0 % 32) t

  pub counts_start : Counting ts (replicate 32 0) 0
  counts_start = record { long = refl; below = omega arith; at = λ t l. get_or-replicate 32 t 0 0 l ∙ sym (count_zero (has t)) }

  pub counts_end : (ns : List ℕ) (i : ℕ) → 32 ≤ i → Counting ts ns i → Filled ns (tag_count ts 32) 32
  counts_end ns i l h = let q : i ≡ 32 = omega arith in record { long = omega arith; at = λ t b. h.at t b ∙ ap (λ j. tag_count ts j t) q }

  module _ (ns : List ℕ) (i : ℕ) (l : i < 32) (h : Counting ts ns i) where
    pub counts_fit : Fits w8 (get_or ns (get_or ts i 0 % 32) 0 + 1)
    counts_fit = record { fits = omega (arith, h.at (get_or ts i 0 % 32) (omega arith), count_most (has (get_or ts i 0 % 32)) i) }

    pub counts_go : (t : ℕ) → t ≡ get_or ts i 0 % 32 → Counting ts (set ns t (get_or ns t 0 + 1)) (i + 1)
    counts_go t e = record {
      long = length-set ns t (get_or ns t 0 + 1) ∙ h.long;
      below = omega arith;
      at = λ k b. at_set (λ y. y ≡ tag_count ts (i + 1) k) ns t (get_or ns t 0 + 1) k 0 (omega arith)
          (λ q. ap (λ x. x + 1) (ap (λ x. get_or ns x 0) (sym q) ∙ h.at k b) ∙ sym (count_yes (has k) i (eq-eqb _ k (sym (q ∙ e)))))
          (λ q. h.at k b ∙ sym (count_no (has k) i (ne_eqb _ k (λ z. q (sym (e ∙ z))))));
    }
