-- The slots: the test of one by the guest at its owner's place, and the column of tags. Assumes nothing.
use Prim.Native.Nat.{ℕ, ◌+◌, ◌-◌, ◌≤◌, ◌<◌}
use mathlib.Core.Bool.{Bool, true, false}
use mathlib.Core.List.{List}
use mathlib.Core.Logic.{⊎_elim}
use mathlib.Core.Path.{◌≡◌, sym, ap, ◌∙◌}
use native.Mathlib.Omega.{arith}
use lib.Dec.{leb, ltb}
use lib.ListN.{length}
use Rattle.std.specs.Prelude.{Some, None}
use borrow.Author.Tests.{leb-true}
use Rattle.lists.specs.Choice.{choose, both}
use Rattle.lists.proofs.Choice.{true_or_false, both_left, both_right, both_no}
use Rattle.model.specs.declared.Guest.{Guest}
use Rattle.model.specs.declared.Space.{Space}
use Rattle.model.specs.Names.{good_name}
use Rattle.model.specs.SoundTest.{live_test, slot_test, dead_test}
use Rattle.model.specs.Searches.{enrolled}
use Rattle.model.specs.Tables.{space_at, live}
use Rattle.permitted.specs.Columns.{guest_on}
use Rattle.permitted.specs.Elements.{place_of}
use Rattle.lists.proofs.Loops.{Left, left_stop, left_done, left_true}
use Rattle.permitted.proofs.Tables.{Filling, fill_end}
use Rattle.sound.proofs.Tags.{tag_owners}
use Rattle.sound.specs.Columns.{tag_at, slots_test, Slots}
use Rattle.sound.specs.Elements.{owned_test, live_with, slot_with}

-- the guest at the owner's place is the owner where there is one
owned_is : (gs : List Guest) (x : Space) → owned_test x (guest_on gs (place_of x.owner)) ≡ enrolled gs x.owner
unfolding enrolled
owned_is gs x = ⊎_elim yes_case (λ e. both_no _ e ∙ sym (both_no _ e)) (true_or_false (both (leb 1 x.owner) (leb x.owner 8)))
  where
    yes_case : both (leb 1 x.owner) (leb x.owner 8) ≡ true → owned_test x (guest_on gs (place_of x.owner)) ≡ enrolled gs x.owner
    yes_case e =
        let l : 1 ≤ x.owner = leb-true 1 x.owner (both_left _ _ e) in
        let h : x.owner ≤ 8 = leb-true x.owner 8 (both_right (leb 1 x.owner) _ e) in
        let q : place_of x.owner ≡ x.owner - 1 = omega arith in
        ap (λ k. both (both (leb 1 x.owner) (leb x.owner 8)) (guest_on gs k).enrolled) q

pub slot_is : (r : Bool) (f n : ℕ) (gs : List Guest) (x : Space) (at : ℕ) → at ≡ place_of x.owner → r ≡ slot_with f n (guest_on gs at) x → r ≡ slot_test f n gs x
unfolding slot_test slot_with live_test live_with
slot_is r f n gs x at e p =
    p
    ∙ ap (λ k. slot_with f n (guest_on gs k) x) e
    ∙ ap (λ b. choose (live x) (both b (both (leb 1 x.pages) (both (leb (x.first + x.pages) f) (both (ltb x.id n) (good_name x.name))))) (dead_test x)) (owned_is gs x)

-- what the loop over the slots gives
module _ (f n : ℕ) (gs : List Guest) (ss : List Space) (ls : length ss ≡ 32) (lg : length gs ≡ 8) (i : ℕ) (t : Left (slots_test f n gs ss) (λ u. slot_test f n gs (space_at ss u)) i 32) where
  pub slots_stop : i < 32 → slot_test f n gs (space_at ss i) ≡ false → Slots None f n gs ss
  slots_stop l e = record { spaces = ls; guests = lg; test = left_stop _ _ i 32 t l e; tags = tt }

  pub slots_done : (ts : List ℕ) → 32 ≤ i → Filling ts (tag_at ss) 32 i → Slots (Some ts) f n gs ss
  slots_done ts l h =
      let c = fill_end ts (tag_at ss) 32 i 32 l h in
      record { spaces = ls; guests = lg; test = left_done _ _ i 32 t l; tags = record { column = c; owners = tag_owners f n gs ss ts (left_true _ _ i 32 t l) c } }
