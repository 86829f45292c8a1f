-- The test of the cells by the column of their weights is the model's. Assumes nothing.
use Prim.Native.Nat.{ℕ, ◌≤◌, ◌<◌}
use mathlib.Core.Bool.{Bool, true, false}
use mathlib.Core.List.{List}
use mathlib.Core.Path.{◌≡◌, sym, ap, ap₂, ◌∙◌}
use native.Mathlib.Omega.{arith}
use lib.Dec.{leb, eqb}
use lib.ListN.{length, get_or}
use borrow.Author.Tests.{leb-true, le-leb, eq-eqb}
use Rattle.lists.specs.Choice.{both, choose, implies}
use Rattle.lists.specs.Places.{every}
use Rattle.lists.proofs.Choice.{not_so, both_left, both_yes}
use Rattle.lists.proofs.Places.{every_at, every_intro, every_same}
use Rattle.model.specs.declared.Cell.{Cell}
use Rattle.model.specs.declared.Space.{Space}
use Rattle.model.specs.Frames.{frame_free}
use Rattle.model.specs.SoundTest.{cell_test, cells_test}
use Rattle.model.specs.Tables.{cell_at}
use Rattle.permitted.specs.Columns.{Filled}
use Rattle.cells.specs.Left.{left_at}
use Rattle.cells.specs.Weights.{weight_at, most_of}
use Rattle.cells.proofs.Weights.{weight_blank, weight_key, most_above, most_least, most_zero}

-- the test of one cell by its weight, and whether its frame is free
abbrev weighed : (free : Bool) → (weight : ℕ) → Bool
weighed t w = both (leb w 15) (implies t (eqb w 0))

weighed_zero : (t : Bool) (w : ℕ) → w ≡ 0 → weighed t w ≡ true
unfolding both implies
weighed_zero true w e = ap (weighed true) e
weighed_zero false w e = ap (weighed false) e

-- where the key is not too high, all is said by what is left
weighed_left : (t : Bool) (w : ℕ) → w ≤ 15 → weighed t w ≡ eqb (choose t w 0) 0
unfolding implies choose
weighed_left true w l = both_yes _ (le-leb w 15 l)
weighed_left false w l = both_yes _ (le-leb w 15 l)

module _ (ss : List Space) (cs : List Cell) (len : length cs ≡ 512) (ws : List ℕ) (filled : Filled ws (weight_at cs) 512) where
  abbrev at : ℕ → ℕ
  at f = get_or ws f 0

  cell_is : (f : ℕ) → f < 512 → cell_test ss ss cs f ≡ weighed (frame_free ss ss f) (at f)
  unfolding cell_test
  cell_is f l =
      ap₂ (λ a b. both a (implies (frame_free ss ss f) b)) (sym (weight_key (cell_at cs f))) (sym (weight_blank (cell_at cs f)))
      ∙ ap (weighed (frame_free ss ss f)) (sym (filled.at f l))

  cells_are : cells_test ss ss cs ≡ every (λ f. weighed (frame_free ss ss f) (at f)) 512
  unfolding cells_test
  cells_are = both_yes _ (eq-eqb (length cs) 512 len) ∙ every_same _ _ 512 cell_is

  module _ (m : ℕ) (e : m ≡ most_of at 512) where
    pub all_blank : m ≡ 0 → true ≡ cells_test ss ss cs
    all_blank z = sym (cells_are ∙ every_intro _ 512 (λ f l. weighed_zero (frame_free ss ss f) (at f) (omega (arith, most_above at 512 f l))))

    pub key_high : 15 < m → false ≡ cells_test ss ss cs
    key_high h = sym (cells_are ∙ not_so _ (λ y.
        omega (arith, most_least at 512 15 (λ f l. leb-true (at f) 15 (both_left _ _ (every_at _ 512 y f l))))))

    pub rest_blank : m ≤ 15 → (vs : List ℕ) (n : ℕ) → Filled vs (left_at ss ws) 512 → n ≡ most_of (λ f. get_or vs f 0) 512 → eqb n 0 ≡ cells_test ss ss cs
    rest_blank h vs n left q =
        ap (λ x. eqb x 0) q
        ∙ most_zero (λ f. get_or vs f 0) 512
        ∙ every_same _ _ 512 (λ f l.
        ap (λ x. eqb x 0) (left.at f l) ∙ sym (weighed_left (frame_free ss ss f) (at f) (omega (arith, most_above at 512 f l))))
        ∙ sym cells_are
