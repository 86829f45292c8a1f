-- What the code has made of the tables and of scratch is what the model says. Assumes nothing.
use Prim.Native.Nat.{ℕ}
use mathlib.Core.Bool.{Bool, true, false, not}
use mathlib.Core.List.{List, []}
use mathlib.Core.Path.{◌≡◌, refl, sym, ap, ◌∙◌}
use lib.Dec.{eqb}
use Rattle.std.specs.Prelude.{Result, Ok}
use Rattle.lists.specs.Choice.{choose}
use Rattle.model.specs.declared.Answer.{Answer}
use Rattle.model.specs.declared.Answer.TheVariants.{Done}
use Rattle.model.specs.declared.Caller.{Caller}
use Rattle.model.specs.declared.Change.TheVariants.{DestroySpace, ResetGuest}
use Rattle.model.specs.declared.Operation.TheVariants.{Destroy, Reset}
use Rattle.model.specs.declared.Space.{Space}
use Rattle.model.specs.declared.State.{State}
use Rattle.model.specs.Arguments.{arguments, check_all}
use Rattle.model.specs.Calls.{judge, enrols, good_caller, perform, destroy, reset}
use Rattle.model.specs.Changes.{freed, applied}
use Rattle.model.specs.Leaves.{in_run}
use Rattle.model.specs.Names.{base_name}
use Rattle.model.specs.Replies.{reply, replied, call_of, Carried}
use Rattle.model.specs.Searches.{enrolled, slot_of, is_data}
use Rattle.model.specs.SoundTest.{sound}
use Rattle.model.specs.Step.{clear_frames, scratch_after}
use Rattle.model.specs.Tables.{space_at}
use Rattle.model.proofs.Rules.{goes}
use Rattle.frames.specs.Runs.{slots_of}
use Rattle.closing.proofs.Freed.{freed_run}
use Rattle.lookup.specs.Owned.{owned_space}
use Rattle.lookup.proofs.Owning.{owned_slot, owned_low, owning_goes}
use Rattle.sound.proofs.Kept.{carried_sound}

-- For search: the space in the slot is a primary.
pub primary_found : (ss : List Space) (g i u n : ℕ) (o : Result ℕ Answer) (b : Bool) → o ≡ owned_space ss g i → o ≡ Ok u → b ≡ eqb (space_at ss u).name n → b ≡ true → not (eqb (space_at ss (slot_of ss i)).name n) ≡ false
primary_found ss g i u n o b is to t y = rw (← owned_slot ss g i o u is to) (ap not (sym t ∙ y))

module _ (s : State) (c : Caller) (known : enrolled s.guests c.guest ≡ true) (m m' : List ℕ) where
  pub destroy_done : (i u : ℕ) (o : Result ℕ Answer) (b : Bool) (t : State) → o ≡ owned_space s.spaces c.guest i → o ≡ Ok u → b ≡ eqb (space_at s.spaces u).name base_name → b ≡ false
      → t ≡ applied s (DestroySpace u) → m' ≡ clear_frames (in_run (space_at s.spaces u).first (space_at s.spaces u).pages) m
      → Carried s (judge s (call_of c (Destroy i)) 0) (reply (Done 0) t) m m'
  unfolding judge good_caller enrols choose arguments check_all perform destroy replied scratch_after
  destroy_done i u o b t is to z n w cleared =
      goes _ s _ _ _ m m' known
      (owning_goes s c.guest i o is _ m u _ m' to
      (rw (← owned_slot s.spaces c.guest i o u is to)
      (goes _ s _ _ _ m m' (ap not (sym z ∙ n)) (record {
        reply = ap (reply (Done 0)) w;
        scratch = cleared ∙ ap (λ fs. clear_frames fs m) (sym (freed_run s.spaces u (owned_low s.spaces c.guest i o u is to)));
      }))))

  pub reset_done : (t : State) → t ≡ applied s (ResetGuest c.guest) → m' ≡ clear_frames (freed s.spaces s.spaces (slots_of (is_data c.guest) s.spaces)) m
      → Carried s (judge s (call_of c Reset) 0) (reply (Done 0) t) m m'
  unfolding judge good_caller enrols choose arguments check_all perform reset replied scratch_after slots_of
  reset_done t w cleared = goes _ s _ _ _ m m' known (record { reply = ap (reply (Done 0)) w; scratch = cleared })

-- the tables after it are sound
module _ (s : State) (c : Caller) (known : enrolled s.guests c.guest ≡ true) (ok : sound s ≡ true) where
  pub destroy_sound : (i u : ℕ) (o : Result ℕ Answer) (b : Bool) (t : State) → o ≡ owned_space s.spaces c.guest i → o ≡ Ok u → b ≡ eqb (space_at s.spaces u).name base_name → b ≡ false
      → t ≡ applied s (DestroySpace u) → sound t ≡ true
  destroy_sound i u o b t is to z n w = carried_sound s t (call_of c (Destroy i)) [] _ (Done 0) ok (destroy_done s c known [] _ i u o b t is to z n w refl)

  pub reset_sound : (t : State) → t ≡ applied s (ResetGuest c.guest) → sound t ≡ true
  reset_sound t w = carried_sound s t (call_of c Reset) [] _ (Done 0) ok (reset_done s c known [] _ t w refl)
