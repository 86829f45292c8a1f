-- "Zero once freed": a frame that no live space has after a call was free before it, or the call cleared it; and it is cleared or
-- keeps its bytes. Assumes nothing.
use Prim.Native.Nat.{ℕ, ◌+◌, ◌*◌, ◌/◌, ◌≤◌}
use mathlib.Core.Bool.{true, false}
use mathlib.Core.List.{List, [], ◌∷◌}
use mathlib.Core.Path.{◌≡◌, refl, sym, ap, ◌∙◌}
use native.Mathlib.Omega.{arith}
use lib.ListN.{length, get_or}
use Rattle.lists.proofs.Bytes.{put_off}
use Rattle.lists.specs.Choice.{choose}
use Rattle.lists.proofs.Choice.{no!, choose_elim}
use Rattle.model.specs.declared.State.{State}
use Rattle.model.specs.Decision.{Decision, after, Effect, none, clear, fetch, store}
use Rattle.model.specs.Frames.{layout, place_of}
use Rattle.model.specs.Lawful.{cleared, EffectInside, Lawful}
use Rattle.model.specs.Sound.{FreeIn, Sound}
use Rattle.model.specs.Step.{Machine, Ready, Issue, Outcome, decision, step, run, after_run, scratch_after}
use Rattle.model.proofs.Addresses.{place_has}
use Rattle.model.proofs.Clearing.{clears_at, frame_agree, frame_zeroed}
use Rattle.model.proofs.Lawful.{lawful_step}
use Rattle.model.proofs.Searches.{live_slot}
use Rattle.model.proofs.Sound.{ready_kept, length-scratch_after}
use Rattle.isolation.specs.Freed.{ZeroOnceFreed, FreeThrough, KeptWhileFree, ZeroOnceFreedKept}
use Rattle.isolation.specs.Kept.{left_by}
use Rattle.isolation.proofs.Kept.{kept_run, left_run}
use Rattle.isolation.proofs.Outside.{free_outside, outside_before, outside_free}
use Rattle.isolation.proofs.RecordKept.{ready_run}

-- One decision on scratch m, and a place p whose frame is free after it.
module _ (s : State) (d : Decision) (ok : Sound (after s d)) (b m : List ℕ) (law : Lawful s (length b) d) (p : ℕ) (free : FreeIn (after s d) (p / 4096)) where
  abbrev t : State
  t = after s d

  -- it is cleared, or it keeps its byte: no store reaches it
  effect_free : (e : Effect) → d.effect ≡ e → EffectInside t (length b) e → get_or (scratch_after t e m b) p 0 ≡ choose (cleared e (p / 4096)) 0 (get_or m p 0)
  unfolding scratch_after
  effect_free none e i = sym (no! _ _ refl)
  effect_free (fetch v a) e i = sym (no! _ _ refl)
  effect_free (clear fs) e i = clears_at fs m p
  effect_free (store v a) e i =
      put_off (place_of (layout t) v) a b m p (λ k _ h q.
      free v (live_slot t.spaces v 32 ok.spaces.len i.live) i.live (rw q (place_has t.spaces (layout t) v k (omega (arith, i.fits)))))
      ∙ sym (no! _ _ refl)

  -- where it was not cleared it was free before
  free_before : cleared d.effect (p / 4096) ≡ false → FreeIn s (p / 4096)
  free_before clean = outside_free (λ _. false) s (p / 4096) (outside_before (λ _. true) (λ _. false) s (length b) d law (p / 4096) (free_outside (λ _. true) t ok (p / 4096) free) clean)

-- One call.
module _ (m : Machine) (ready : Ready m) (i : Issue) (p : ℕ) (free : FreeIn (step m i).machine.tables (p / 4096)) where
  abbrev d : Decision
  d = decision m i

  law : Lawful m.tables (length i.buffer) d
  law = lawful_step m i ready

  step_free : get_or (step m i).machine.scratch p 0 ≡ choose (cleared d.effect (p / 4096)) 0 (get_or m.scratch p 0)
  unfolding step
  step_free = effect_free m.tables d (ready_kept m i ready).sound i.buffer m.scratch law p free d.effect refl law.inside

  -- zero before, where it was free then, is zero after
  zero_step : (FreeIn m.tables (p / 4096) → get_or m.scratch p 0 ≡ 0) → get_or (step m i).machine.scratch p 0 ≡ 0
  unfolding step
  zero_step zero =
      step_free
      ∙ choose_elim (λ x. x ≡ 0) (cleared d.effect (p / 4096)) 0 _ (λ _. refl) (λ clean. zero (free_before m.tables d (ready_kept m i ready).sound i.buffer m.scratch law p free clean))

  -- a frame that was free keeps its bytes
  same_step : FreeIn m.tables (p / 4096) → get_or (step m i).machine.scratch p 0 ≡ get_or m.scratch p 0
  unfolding step
  same_step was = step_free ∙ no! _ _ (law.idle (p / 4096) was free)

-- Every call of a list. The frame f is zero in a machine where it is free there.
abbrev ZeroIf : (frame : ℕ) → Machine → Type 0
ZeroIf f m = FreeIn m.tables f → (p : ℕ) → p / 4096 ≡ f → get_or m.scratch p 0 ≡ 0

zero_run : (f : ℕ) (calls : List Issue) (m : Machine) → Ready m → ZeroIf f m → ZeroIf f (after_run m calls)
unfolding after_run
zero_run f [] m ready zero = zero
zero_run f (i ∷ is) m ready zero = zero_run f is (step m i).machine (ready_kept m i ready) (λ free p e. zero_step m ready i p (rw e free) (λ was. zero (rw e at was) p e))

-- scratch keeps its length
length_run : (calls : List Issue) (m : Machine) → length (after_run m calls).scratch ≡ length m.scratch
unfolding after_run step
length_run [] m = refl
length_run (i ∷ is) m = length_run is (step m i).machine ∙ length-scratch_after _ (decision m i).effect m.scratch i.buffer

pub zero_once_freed : ZeroOnceFreed
zero_once_freed m calls f ready (u, (l, (p, b, e))) free =
    frame_zeroed f _ room (zero_run f calls m ready (λ now. absurd (now u (live_slot m.tables.spaces u 32 ready.sound.spaces.len l) l (p, b, e))) free)
  where
    room : f * 4096 + 4096 ≤ length (after_run m calls).scratch
    room = rw (length_run calls m, ready.room) (omega (arith, ready.sound.spaces.inside u p l b, e))

pub kept_while_free : KeptWhileFree
unfolding after_run FreeThrough
kept_while_free m [] f ready free = refl
kept_while_free m (i ∷ is) f ready free =
    kept_while_free (step m i).machine is f (ready_kept m i ready) free.1
    ∙ frame_agree f _ _ (length_run (i ∷ []) m) (λ p e. same_step m ready i p (rw e (then is free.1)) (rw e free.0))
  where
    -- it is free after the first call
    then : (is : List Issue) → FreeThrough f (step m i).machine is → FreeIn (step m i).machine.tables f
    then [] x = x
    then (j ∷ js) x = x.0

-- the machine that a list of calls left by the public face is the model's
left_by_lem : (m : Machine) (is : List Issue) (os : List Outcome) → os ≡ run m is → left_by m os ≡ after_run m is
left_by_lem m is os e = ap (left_by m) e ∙ left_run m is

pub zero_once_freed_kept : ZeroOnceFreedKept
zero_once_freed_kept m earlier later os ps f ready k l =
    rw (left_by_lem _ later ps (kept_run _ later ps l), left_by_lem m earlier os (kept_run m earlier os k)) (zero_once_freed (after_run m earlier) later f (ready_run earlier m ready))
