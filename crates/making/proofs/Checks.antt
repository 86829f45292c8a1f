-- The checks 9, 11 and 10 on the tables that they look at. Assumes nothing.
use Prim.Native.Nat.{ℕ, ◌≤◌, ◌<◌}
use mathlib.Core.List.{List}
use mathlib.Core.Path.{◌≡◌, refl, sym, ap, ◌∙◌}
use Rattle.std.specs.Prelude.{Option, Some}
use Rattle.lookup.specs.Found.{found}
use Rattle.lookup.proofs.Found.{found_is, found_low}
use Rattle.lookup.proofs.Rules.{found_no, found_yes}
use Rattle.model.specs.declared.Answer.TheVariants.{SlotsUsed, NoIdentification, NoRun}
use Rattle.model.specs.declared.Space.{Space}
use Rattle.model.specs.declared.State.{State}
use Rattle.model.specs.Calls.{making, new_space}
use Rattle.model.specs.Searches.{free_slot, free_run, run_in}
use Rattle.model.proofs.Rules.{check_yes, check_no}
use Rattle.making.specs.Placing.{HasTables, PlacedAt, NotPlaced}

pub no_slot : (F next : ℕ) (ss : List Space) (n : ℕ) → 32 ≤ free_slot ss → NotPlaced F next ss n SlotsUsed
unfolding making
no_slot F next ss n l s h c = check_no _ _ (found_no (free_slot ss) _ 32 (ap free_slot (sym h.spaces)) l)

-- where a free slot has been found
module _ (F next : ℕ) (ss : List Space) (n : ℕ) (o : Option ℕ) (e : o ≡ found 32 (free_slot ss)) (slot : ℕ) (is : o ≡ Some slot) where
  slot_is : slot ≡ free_slot ss
  slot_is = found_is 32 (free_slot ss) o e slot is

  l : slot < 32
  l = found_low 32 (free_slot ss) o e slot is

  slot_in_lem : (s : State) → HasTables s F next ss → slot ≡ free_slot s.spaces
  slot_in_lem s h = slot_is ∙ ap free_slot (sym h.spaces)

  pub spent : 65536 ≤ next → NotPlaced F next ss n NoIdentification
  unfolding making
  spent p s h c = check_yes _ _ (found_yes slot _ 32 (slot_in_lem s h) l) ∙ check_no _ _ (found_no next _ 65536 (sym h.next) p)

  module _ (first : ℕ) (first-is : first ≡ run_in F ss ss n) (p : next < 65536) where
    first_in : (s : State) → HasTables s F next ss → first ≡ free_run s n
    first_in s h = rw (h.frames, h.spaces) first-is

    pub no_run : F ≤ first → NotPlaced F next ss n NoRun
    unfolding making
    no_run q s h c =
        check_yes _ _ (found_yes slot _ 32 (slot_in_lem s h) l)
        ∙ check_yes _ _ (found_yes next _ 65536 (sym h.next) p)
        ∙ check_no _ _ (found_no first _ _ (first_in s h) (rw h.frames q))

    pub at_slot : (g name : ℕ) → first < F → (s : State) → HasTables s F next ss → PlacedAt s g name n slot (record { id = next; owner = g; name = name; first = first; pages = n })
    unfolding new_space
    at_slot g name q s h = record {
      slot = slot_in_lem s h;
      low = l;
      unspent = rw h.next p;
      run = rw (← first_in s h, h.frames) q;
      space = rw (h.next, ← first_in s h) refl;
    }
