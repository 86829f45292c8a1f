-- The guests: the loop over them, and its test by the counts of the tags, which is the model's. Assumes nothing.
use Prim.Native.Nat.{ℕ, ◌+◌, ◌-◌, ◌≤◌, ◌<◌}
use mathlib.Core.Bool.{Bool, true, false}
use mathlib.Core.List.{List}
use mathlib.Core.Path.{◌≡◌, refl, sym, ap₂, ◌∙◌}
use native.Mathlib.Omega.{arith}
use lib.ListN.{length, get_or}
use borrow.Author.Count.{below_more}
use borrow.Author.Tests.{eq-eqb}
use Rattle.lists.specs.Places.{every}
use Rattle.lists.proofs.Choice.{true_false, both_yes, both_not}
use Rattle.lists.proofs.Places.{every_intro, every_same}
use Rattle.model.specs.declared.Cpu.{Cpu}
use Rattle.model.specs.declared.Guest.{Guest}
use Rattle.model.specs.declared.Space.{Space}
use Rattle.model.specs.SoundTest.{guest_test, guests_test}
use Rattle.model.specs.Tables.{cpu_at}
use Rattle.permitted.specs.Columns.{Filled, guest_on}
use Rattle.lists.proofs.Loops.{Left, left_every, left_go, left_stop, left_done}
use Rattle.sound.proofs.Tags.{data_count, primary_count}
use Rattle.sound.specs.Columns.{tag_at, slots_test, tag_count, guests_with, Guests}
use Rattle.settings.specs.Guests.{guest_with}

-- the loop over the guests: a table of counts, and the guests below k passed
pub record Passed (ts ns : List ℕ) (gs : List Guest) (cs : List Cpu) (k : ℕ) : Type 0 where
  pub below : k ≤ 8
  pub counts : Filled ns (tag_count ts 32) 32
  pub left : Left (guests_with ts gs cs) (λ j. guest_with (guest_on gs j) (cpu_at cs j) (tag_count ts 32 (j + 17)) (tag_count ts 32 (j + 1))) k 8
  pub registers : (j : ℕ) → j < k → length (cpu_at cs j).registers ≡ 16

module _ (ts ns : List ℕ) (gs : List Guest) (cs : List Cpu) where
  pub guests_start : Filled ns (tag_count ts 32) 32 → Passed ts ns gs cs 0
  unfolding guests_with
  guests_start h = record { below = omega arith; counts = h; left = left_every _ 8; registers = λ j l. absurd (omega arith) }

  module _ (lc : length cs ≡ 8) (k : ℕ) (h : Passed ts ns gs cs k) where
    pub guests_done : 8 ≤ k → Guests true ts gs cs
    guests_done l = record { cpus = lc; test = left_done _ _ k 8 h.left l; registers = λ _ j b. h.registers j (omega arith) }

    module _ (r : Bool) (b : k < 8) (e : r ≡ guest_with (guest_on gs k) (cpu_at cs k) (get_or ns (k + 17) 0) (get_or ns (k + 1) 0)) where
      counted : r ≡ guest_with (guest_on gs k) (cpu_at cs k) (tag_count ts 32 (k + 17)) (tag_count ts 32 (k + 1))
      counted = e ∙ ap₂ (λ p d. guest_with (guest_on gs k) (cpu_at cs k) p d) (h.counts.at (k + 17) (omega arith)) (h.counts.at (k + 1) (omega arith))

      pub guests_go : length (cpu_at cs k).registers ≡ 16 → r ≡ true → Passed ts ns gs cs (k + 1)
      guests_go q t = record {
        below = omega arith;
        counts = h.counts;
        left = left_go _ _ k 8 h.left b (sym counted ∙ t);
        registers = below_more _ _ h.registers q;
      }

      pub guests_stop : r ≡ false → Guests false ts gs cs
      guests_stop t = record { cpus = lc; test = left_stop _ _ k 8 h.left b (sym counted ∙ t); registers = λ z. true_false z refl }

-- the guests, by the counts of the tags
module _ (f n : ℕ) (gs : List Guest) (ss : List Space) (cs : List Cpu) (ts : List ℕ) (ok : slots_test f n gs ss ≡ true) (tagged : Filled ts (tag_at ss) 32) where
  guest_is : (k : ℕ) → k < 8 → guest_with (guest_on gs k) (cpu_at cs k) (tag_count ts 32 (k + 17)) (tag_count ts 32 (k + 1)) ≡ guest_test ss gs cs k
  unfolding guest_test guest_with
  guest_is k b =
      let q : k + 1 - 1 ≡ k = omega arith in
      rw (q, data_count f n gs ss ts ok tagged k b, primary_count f n gs ss ts ok tagged k b)

  guests_are : guests_with ts gs cs ≡ every (guest_test ss gs cs) 8
  unfolding guests_with
  guests_are = every_same _ _ 8 guest_is

  pub guests_is : length gs ≡ 8 → (r : Bool) → Guests r ts gs cs → r ≡ guests_test ss gs cs
  unfolding guests_test
  guests_is lg false g = sym (both_not _ _ (both_not _ _ (both_not _ _ (sym (g.test ∙ guests_are)))))
  guests_is lg true g =
      g.test
      ∙ guests_are
      ∙ sym (both_yes _ (eq-eqb (length gs) 8 lg)
      ∙ both_yes _ (eq-eqb (length cs) 8 g.cpus)
      ∙ both_yes _ (every_intro _ 8 (λ k l. eq-eqb (length (cpu_at cs k).registers) 16 (g.registers refl k l))))
