-- The entries: the standings in one pass, those above the lists in another. Together they are the model's test. Assumes nothing.
use Prim.Native.Nat.{ℕ, ◌+◌, ◌-◌, ◌≤◌, ◌<◌}
use mathlib.Core.Bool.{Bool, true, false}
use mathlib.Core.List.{List}
use mathlib.Core.Path.{◌≡◌, refl, sym, ap, ◌∙◌}
use native.Mathlib.Omega.{arith}
use lib.Dec.{leb, ltb}
use lib.ListN.{length}
use borrow.Author.Tests.{eq-eqb, le-leb, leb-true}
use Rattle.lists.specs.Choice.{both, implies}
use Rattle.lists.specs.Places.{all_from, every}
use Rattle.lists.proofs.Choice.{both_left, both_right, both_intro, both_yes, implies_to, implies_of}
use Rattle.lists.proofs.Decides.{d_le, d_lt, same, same_by}
use Rattle.lists.proofs.Places.{all_at, all_intro, every_at, every_intro, every_same}
use Rattle.model.specs.declared.Entry.{Entry}
use Rattle.model.specs.declared.Guest.{Guest}
use Rattle.model.specs.declared.Permit.{Permit}
use Rattle.model.specs.declared.Space.{Space}
use Rattle.model.specs.declared.Standing.{Standing}
use Rattle.model.specs.SoundTest.{standing_test, untouched_test, entry_test, entries_test}
use Rattle.permitted.specs.Columns.{guest_on}
use Rattle.listed.specs.Standings.{entry_on, standing_with, entry_with, entries_with, above_test}

both_assoc : (a b c : Bool) → both a (both b c) ≡ both (both a b) c
unfolding both
both_assoc true b c = refl
both_assoc false b c = refl

-- two tests of each pair, the first by columns and the second by rows
parted : (s t : ℕ → ℕ → Bool) (m n : ℕ) → every (λ k. every (λ i. both (s k i) (t k i)) n) m ≡ both (every (λ i. every (λ k. s k i) m) n) (every (λ k. every (t k) n) m)
parted s t m n = same _ _
    (λ e. both_intro _ _
    (every_intro _ n (λ i l. every_intro _ m (λ k b. both_left _ _ (pair e k b i l))))
    (every_intro _ m (λ k b. every_intro _ n (λ i l. both_right (s k i) _ (pair e k b i l)))))
    (λ e. every_intro _ m (λ k b. every_intro _ n (λ i l. both_intro _ _
    (every_at _ m (every_at (λ j. every (λ h. s h j) m) n (both_left _ _ e) i l) k b)
    (every_at (t k) n (every_at (λ h. every (t h) n) m (both_right (every (λ j. every (λ h. s h j) m) n) _ e) k b) i l))))
  where
    pair : every (λ k. every (λ i. both (s k i) (t k i)) n) m ≡ true → (k : ℕ) → k < m → (i : ℕ) → i < n → both (s k i) (t k i) ≡ true
    pair e k b i l = every_at (λ j. both (s k j) (t k j)) n (every_at (λ h. every (λ j. both (s h j) (t h j)) n) m e k b) i l

-- the places from l on
from_is : (p : ℕ → Bool) (l n : ℕ) → every (λ i. implies (leb l i) (p i)) n ≡ all_from p l (n - l)
from_is p l n = same _ _
    (λ e. all_intro p l (n - l) (λ i a b. implies_to (leb l i) (p i) (every_at (λ j. implies (leb l j) (p j)) n e i (omega arith)) (le-leb l i a)))
    (λ e. every_intro _ n (λ i b. implies_of (leb l i) (p i) (λ y. let a : l ≤ i = leb-true l i y in all_at p l (n - l) e i a (omega arith))))

module _ (gs : List Guest) (ss : List Space) (ps : List Permit) (es : List Entry) (ws : List ℕ)
    (standing : (k : ℕ) → k < 8 → (x : Standing) → standing_with ws k x ≡ standing_test ss ps (k + 1) x) where
  entry_is : (k i : ℕ) → k < 8 → entry_test gs ss ps es (k + 1) (i + 2) ≡ both (entry_with ws k (entry_on es k i)) (implies (leb (guest_on gs k).list i) (untouched_test (entry_on es k i)))
  unfolding entry_test entry_with
  entry_is k i b =
      let q : k + 1 - 1 ≡ k = omega arith in
      let r : i + 2 - 2 ≡ i = omega arith in
      let t : ltb ((guest_on gs k).list + 1) (i + 2) ≡ leb (guest_on gs k).list i = same_by (d_lt ((guest_on gs k).list + 1) (i + 2)) (d_le (guest_on gs k).list i) (λ e. omega arith) (λ e. omega arith) in
      rw (q, r, t) (ap (λ x. both (ltb (entry_on es k i).sequence 256) (both x (implies (leb (guest_on gs k).list i) (untouched_test (entry_on es k i))))) (sym (standing k b (entry_on es k i).standing)) ∙ both_assoc _ _ _)

  pub entries_is : length es ≡ 240 → both (entries_with ws es) (above_test gs es) ≡ entries_test gs ss ps es
  unfolding entries_test entries_with above_test
  entries_is len =
      sym (both_yes _ (eq-eqb (length es) 240 len)
      ∙ every_same _ _ 8 (λ k b. every_same _ _ 30 (λ i l. entry_is k i b))
      ∙ parted _ _ 8 30
      ∙ ap (both _) (every_same _ _ 8 (λ k b. from_is _ _ 30)))
