-- What BLOCK decides on what it has seen is what the model says. Assumes nothing.
use Prim.Native.Nat.{ℕ, ◌+◌, ◌*◌, ◌/◌, ◌≤◌, ◌<◌}
use mathlib.Core.Bool.{Bool, true, false, not}
use mathlib.Core.Path.{◌≡◌, refl, sym, ap, ◌∙◌}
use native.Mathlib.Omega.{arith}
use lib.Dec.{ltb, eqb}
use borrow.Author.Tests.{le-leb, lt-leb, ltb-true}
use Rattle.std.specs.Prelude.{Result, Ok, Err}
use Rattle.lists.proofs.Rules.{test_no, test_yes}
use Rattle.model.specs.declared.Answer.{Answer}
use Rattle.model.specs.declared.Answer.TheVariants.{Limit, Addressing}
use Rattle.model.specs.declared.Caller.{Caller}
use Rattle.model.specs.declared.Change.TheVariants.{SetCell}
use Rattle.model.specs.declared.Kind.TheVariants.{Flag, Key as KeyKind}
use Rattle.model.specs.declared.Operation.TheVariants.{Block}
use Rattle.model.specs.declared.Space.{Space}
use Rattle.model.specs.declared.State.{State}
use Rattle.model.specs.Arguments.{arguments, check_all}
use Rattle.model.specs.Calls.{enrols, perform, judge, block}
use Rattle.model.specs.Decision.{Decision, check, done, refuse}
use Rattle.model.specs.Frames.{layout, frame_of, size_of}
use Rattle.model.specs.Replies.{call_of}
use Rattle.model.specs.Searches.{slot_of}
use Rattle.model.specs.Sizes.{frame_size}
use Rattle.model.specs.SoundTest.{sound}
use Rattle.model.specs.Tables.{space_at}
use Rattle.model.proofs.Rules.{check_yes, check_no}
use Rattle.model.proofs.Searches.{slot_found}
use Rattle.model.proofs.SoundTest.{sound_decides}
use Rattle.lookup.specs.Owned.{owned_at}
use Rattle.edits.specs.declared.Edit.TheVariants.{Cell as CellEdit}
use Rattle.edits.specs.declared.Granted.{Granted}
use Rattle.edits.specs.Edits.{change_of, edited, Fits, Decided}
use Rattle.edits.proofs.Kept.{decided_refused, decided_done}
use Rattle.views.specs.declared.View.{View}
use Rattle.asks.specs.Asks.{asks_by}
use Rattle.views.specs.Views.{cell_place}
use Rattle.views.proofs.Cells.{cell_frame}
use Rattle.views.proofs.Judged.{judged_good}
use Rattle.views.proofs.Looked.{space_slot, block_finds}
use Rattle.views.proofs.Seeking.{Shows, Seeks, slot_low, stops, slot_is, goes_on}

module _ (v : View) (i a k m : ℕ) (l : v.place < 8) where
  pub block_key : (y : Answer) → y ≡ Limit KeyKind 4 → 16 ≤ k → Decided v (Block i a k m) (edited (Err y))
  unfolding enrols arguments check_all
  block_key y is h = decided_refused v (Block i a k m) y (λ s c ok e. judged_good s c (Block i a k m) 0 v refl e l ∙ check_no _ _ (lt-leb k 15 h) ∙ ap refuse (sym is))

  module _ (small : k < 16) where
    pub block_mark : (y : Answer) → y ≡ Limit Flag 5 → 2 ≤ m → Decided v (Block i a k m) (edited (Err y))
    unfolding enrols arguments check_all
    block_mark y is h =
        decided_refused v (Block i a k m) y
        (λ s c ok e. judged_good s c (Block i a k m) 0 v refl e l ∙ check_yes _ _ (le-leb k 15 (omega arith)) ∙ check_no _ _ (lt-leb m 1 h) ∙ ap refuse (sym is))

    module _ (flag : m < 2) (g : ℕ) (own : g ≡ v.place + 1) (o : Result ℕ Answer) (found : o ≡ owned_at v.slot v.space g) where
      is : o ≡ owned_at v.slot v.space (v.place + 1)
      is = found ∙ ap (owned_at v.slot v.space) own

      -- what follows the checks 5 and 6
      set : State → Caller → Decision
      set s c =
          check (ltb a (size_of s.spaces (slot_of s.spaces i))) Addressing
          (done (SetCell (frame_of (layout s) (slot_of s.spaces i) (a / frame_size)) (record { key = k; mark = eqb m 1 })))

      block_seeks : Seeks v (Block i a k m) i l o is set
      unfolding enrols arguments check_all perform block set
      block_seeks = record {
        finds = λ s c e. block_finds s c.guest i v a k m e;
        judged = λ s c e. judged_good s c (Block i a k m) 0 v refl e l ∙ check_yes _ _ (le-leb k 15 (omega arith)) ∙ check_yes _ _ (le-leb m 1 (omega arith));
      }

      pub block_refused : (y : Answer) → o ≡ Err y → Decided v (Block i a k m) (edited (Err y))
      block_refused y q = decided_refused v (Block i a k m) y (λ s c ok e. stops v (Block i a k m) i l o is set block_seeks y q s c e)

      module _ (u : ℕ) (q : o ≡ Ok u) (t : Bool) (ts : t ≡ ltb a (v.space.pages * 4096)) where
        slot : (s : State) (c : Caller) → Shows v (Block i a k m) s c → v.slot ≡ slot_of s.spaces i
        slot s c e = block_finds s c.guest i v a k m e

        low : (s : State) (c : Caller) → Shows v (Block i a k m) s c → slot_of s.spaces i < 32
        low s c e = omega (arith, slot_is v (Block i a k m) i l o is set block_seeks u q s c e, slot_low u v.slot (v.place + 1) v.space o is q)

        -- the space is the one that was seen
        space_is : (s : State) (c : Caller) → Shows v (Block i a k m) s c → v.space ≡ space_at s.spaces (slot_of s.spaces i)
        space_is s c e =
            space_slot s (asks_by c.guest (Block i a k m)) v e (omega (arith, slot s c e, low s c e))
            ∙ ap (space_at s.spaces) (slot s c e)

        inside_is : (s : State) (c : Caller) → Shows v (Block i a k m) s c → t ≡ ltb a (size_of s.spaces (slot_of s.spaces i))
        inside_is s c e = ts ∙ ap (λ (y : Space). ltb a (y.pages * 4096)) (space_is s c e)

        judged_block : (s : State) (c : Caller) → Shows v (Block i a k m) s c → judge s (call_of c (Block i a k m)) 0 ≡ set s c
        judged_block = goes_on v (Block i a k m) i l o is set block_seeks u q

        pub block_outside : not t ≡ true → Decided v (Block i a k m) (edited (Err Addressing))
        unfolding set
        block_outside n =
            decided_refused v (Block i a k m) _ (λ s c ok e. judged_block s c e ∙ check_no _ _ (test_no t _ (inside_is s c e) n))

        -- the place is that of the address's frame
        place_is : (s : State) (c : Caller) → sound s ≡ true → Shows v (Block i a k m) s c → not t ≡ false
            → cell_place v.space (a / 4096) ≡ frame_of (layout s) (slot_of s.spaces i) (a / frame_size)
        place_is s c ok e n =
            let b = ltb-true a (size_of s.spaces (slot_of s.spaces i)) (test_yes t _ (inside_is s c e) n) in
            ap (λ y. cell_place y (a / 4096)) (space_is s c e)
            ∙ cell_frame s (slot_of s.spaces i) (a / 4096) ((sound_decides s).to ok) (slot_found s.spaces i (low s c e)).0 (omega arith)

        pub block_done : (f j : ℕ) (b : Bool) (x : Granted) → not t ≡ false → f ≡ cell_place v.space (a / 4096) → f < 512 → j ≡ k → b ≡ eqb m 1
            → x ≡ record { value = 0; edit = CellEdit f (record { key = j; mark = b }) } → Decided v (Block i a k m) (edited (Ok x))
        unfolding set change_of Fits
        block_done f j b x n w inside at bs p =
            decided_done v (Block i a k m) x _ p inside
            (λ s c ok e. rw (judged_block s c e ∙ check_yes _ _ (test_yes t _ (inside_is s c e) n))
            (record { answer = refl; change = rw (at, bs) (ap (λ y. SetCell y (record { key = k; mark = eqb m 1 })) (w ∙ place_is s c ok e n)) }))
