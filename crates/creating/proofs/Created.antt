-- CREATE's checks on the tables that they look at. Assumes nothing.
use Prim.Native.Nat.{ℕ, ◌≤◌, ◌<◌}
use mathlib.Core.Bool.{Bool, true, false, not}
use mathlib.Core.List.{List, []}
use mathlib.Core.Logic.{◌⊎◌, ⊎_elim}
use mathlib.Core.Path.{◌≡◌, refl, sym, ap, ap₂, ◌∙◌}
use native.Mathlib.Omega.{arith}
use lib.Dec.{leb}
use lib.ListN.{get_or}
use borrow.Author.Tests.{le-leb, lt-leb, eq-eqb, ne_eqb, not-true, not-false}
use Rattle.lists.specs.Choice.{choose, both}
use Rattle.lists.proofs.Choice.{both_intro, both_no, both_not}
use Rattle.std.specs.Prelude.{Option, Some, None, Result, Ok, Err, is_some}
use Rattle.model.specs.declared.Answer.{Answer}
use Rattle.model.specs.declared.Answer.TheVariants.{Done, BadCaller, Limit, NameTaken, AllowanceUsed}
use Rattle.model.specs.declared.Caller.{Caller}
use Rattle.model.specs.declared.Guest.{Guest}
use Rattle.model.specs.declared.Kind.TheVariants.{Name, Pages}
use Rattle.model.specs.declared.Operation.TheVariants.{Create}
use Rattle.model.specs.declared.Space.{Space}
use Rattle.model.specs.declared.State.{State}
use Rattle.model.specs.Arguments.{arguments, check_all}
use Rattle.model.specs.Calls.{create, creating, making, perform, enrols, good_caller, judge}
use Rattle.model.specs.Changes.{space_added}
use Rattle.model.specs.Leaves.{caller_place}
use Rattle.model.specs.Names.{good_name}
use Rattle.model.specs.Leaves.{in_run}
use Rattle.model.specs.Replies.{reply, call_of, Carried}
use Rattle.model.specs.Step.{clear_frames}
use Rattle.model.specs.Searches.{slot_named, data_spaces}
use Rattle.model.specs.SoundTest.{sound}
use Rattle.model.specs.Tables.{no_guest, guest_at}
use Rattle.model.proofs.Rules.{check_yes, check_no, place_yes, place_no, place_is}
use Rattle.model.proofs.Searches.{enrolled_guest}
use Rattle.lookup.specs.Found.{found}
use Rattle.lookup.proofs.Found.{found_is, found_low, found_none, found_some, found_not}
use Rattle.making.specs.declared.Placed.{Placed}
use Rattle.making.proofs.Done as making
use Rattle.sound.proofs.Kept.{carried_sound}
use Rattle.making.specs.Placing.{HasTables, PlacedTo, CallNotPlaced, CallPlacedTo}

module _ (F next : ℕ) (ss : List Space) (gs : List Guest) (c : Caller) (name pages : ℕ) (o : Option ℕ) (oe : o ≡ found 8 (caller_place gs c.guest)) where
  abbrev Stops : Answer → Type 0
  Stops = CallNotPlaced F next ss gs (call_of c (Create name pages))

  -- check 2
  pub create_caller : o ≡ None → Stops BadCaller
  unfolding judge good_caller enrols choose
  create_caller is s h q = check_no _ _ (rw q (place_no (caller_place gs c.guest) gs c.guest refl (found_none 8 _ o oe is)))

  module _ (at : ℕ) (is : o ≡ Some at) where
    e : at ≡ caller_place gs c.guest
    e = found_is 8 _ o oe at is

    l : at < 8
    l = found_low 8 _ o oe at is

    -- an enrolled guest's number
    pub owner_small : c.guest ≤ 8
    owner_small = (enrolled_guest gs c.guest (place_yes at gs c.guest e l)).high

    -- the arguments
    module _ (good : Bool) (g : good ≡ good_name name) where
      pub create_name : not good ≡ true → Stops (Limit Name 2)
      unfolding judge good_caller enrols choose arguments check_all
      create_name ng s h q = check_yes _ _ (rw q (place_yes at gs c.guest e l)) ∙ check_no _ _ (sym g ∙ not-true good ng)

      module _ (ng : not good ≡ false) where
        wrong_pages : both (leb 1 pages) (leb pages 512) ≡ false → Stops (Limit Pages 3)
        unfolding judge good_caller enrols choose arguments check_all
        wrong_pages p s h q = check_yes _ _ (rw q (place_yes at gs c.guest e l)) ∙ check_yes _ _ (sym g ∙ not-false good ng) ∙ check_no _ _ p

        pub create_pages : (pages ≡ 0) ⊎ ((pages ≡ 0 → ⊥) × (512 < pages)) → Stops (Limit Pages 3)
        create_pages = ⊎_elim (λ z. wrong_pages (both_no _ (lt-leb 1 pages (omega arith)))) (λ m. wrong_pages (both_not (leb 1 pages) _ (lt-leb pages 512 m.1)))

        -- its own checks
        module _ (p0 : pages ≡ 0 → ⊥) (p1 : pages ≤ 512) where
          checked : (s : State) → s.guests ≡ gs → judge s (call_of c (Create name pages)) 0 ≡ create s c.guest name pages
          unfolding judge good_caller enrols choose arguments check_all perform
          checked s q =
              check_yes _ _ (rw q (place_yes at gs c.guest e l))
              ∙ check_yes _ _ (sym g ∙ not-false good ng)
              ∙ check_yes _ _ (both_intro _ _ (le-leb 1 pages (omega arith)) (le-leb pages 512 p1))

          module _ (u : Option ℕ) (ue : u ≡ found 32 (slot_named ss c.guest name)) (taken : Bool) (te : taken ≡ is_some u) where
            pub create_named : taken ≡ true → Stops NameTaken
            unfolding create
            create_named t s h q = checked s q ∙ check_no _ _ (rw h.spaces (lt-leb 32 _ (found_some 32 _ u ue (sym te ∙ t))))

            module _ (tn : taken ≡ false) (n : ℕ) (ne : n ≡ data_spaces ss c.guest) where
              -- the allowance, read at the caller's place
              allowance_is : (s : State) → s.guests ≡ gs → (get_or gs at no_guest).allowance ≡ (guest_at s.guests c.guest).allowance
              allowance_is s q = ap₂ (λ (x : List Guest) k. (get_or x k no_guest).allowance) (sym q) (place_is at gs c.guest e l)

              pub create_full : n ≡ (get_or gs at no_guest).allowance → Stops AllowanceUsed
              unfolding create
              create_full nn s h q =
                  checked s q
                  ∙ check_yes _ _ (rw h.spaces (le-leb 32 _ (found_not 32 _ u ue (sym te ∙ tn))))
                  ∙ check_no _ _ (ap not (eq-eqb _ _ (ap (λ x. data_spaces x c.guest) h.spaces ∙ sym ne ∙ nn ∙ allowance_is s q)))

              passed : (n ≡ (get_or gs at no_guest).allowance → ⊥) → (s : State) → HasTables s F next ss → s.guests ≡ gs
                  → judge s (call_of c (Create name pages)) 0 ≡ making s pages (creating s c.guest name pages)
              unfolding create
              passed nn s h q =
                  checked s q
                  ∙ check_yes _ _ (rw h.spaces (le-leb 32 _ (found_not 32 _ u ue (sym te ∙ tn))))
                  ∙ check_yes _ _ (ap not (ne_eqb _ _ (λ z. nn (ne ∙ ap (λ x. data_spaces x c.guest) (sym h.spaces) ∙ z ∙ sym (allowance_is s q)))))

              pub create_placed : (n ≡ (get_or gs at no_guest).allowance → ⊥) → (r : Result Placed Answer) → PlacedTo F next ss c.guest name pages r → CallPlacedTo F next ss gs (call_of c (Create name pages)) name pages (λ s. creating s c.guest name pages) r
              create_placed nn (Err a) p = λ s h q. passed nn s h q ∙ p s h (creating s c.guest name pages)
              create_placed nn (Ok y) p = λ s h q. record { guest = enrolled_guest s.guests c.guest (rw q (place_yes at gs c.guest e l)); judged = passed nn s h q; placed = p s h }

-- the space is made
module _ (s : State) (c : Caller) (name pages : ℕ) (r : Result Placed Answer) (p : Placed)
    (d : CallPlacedTo s.frames s.next s.spaces s.guests (call_of c (Create name pages)) name pages (λ t. creating t c.guest name pages) r) (e : r ≡ Ok p) (ok : sound s ≡ true)
    (t : State) (te : t ≡ space_added s p.slot p.space) where
  pub create_done : (a : Answer) (m m' : List ℕ) → a ≡ Done p.space.id → m' ≡ clear_frames (in_run p.space.first p.space.pages) m
      → Carried s (judge s (call_of c (Create name pages)) 0) (reply a t) m m'
  create_done a m m' ae cleared =
      rw (te, ae) (making.makes s (call_of c (Create name pages)) name pages (λ t. creating t c.guest name pages) r d m p e s.guests m' refl ok cleared)

  pub create_sound : sound t ≡ true
  create_sound = carried_sound s _ (call_of c (Create name pages)) [] _ (Done p.space.id) ok (create_done (Done p.space.id) [] _ refl refl)
