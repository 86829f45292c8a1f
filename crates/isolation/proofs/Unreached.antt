-- What a call does to the bytes of a live space that it does not reach: nothing; or it made the space, and then all are zeros.
-- Assumes nothing.
use Prim.Native.Nat.{ℕ, ◌+◌, ◌*◌, ◌/◌, ◌%◌}
use mathlib.Core.List.{List}
use mathlib.Core.Logic.{◌⊎◌, inl, inr, ⊎_elim}
use mathlib.Core.Path.{◌≡◌, refl, ap, ap₂, fun_ext, ◌∙◌}
use native.Mathlib.Decide.{ℕ_discrete}
use lib.ListN.{length, replicate}
use Rattle.lists.specs.Bytes.{get}
use Rattle.lists.proofs.Choice.{true_false}
use Rattle.model.specs.declared.Caller.{Caller}
use Rattle.model.specs.declared.Operation.TheVariants.{Reset}
use Rattle.model.specs.declared.Space.{Space}
use Rattle.model.specs.declared.State.{State}
use Rattle.model.specs.Answers.{number}
use Rattle.model.specs.Decision.{Decision, after, Effect, none, clear, fetch, store}
use Rattle.model.specs.Frames.{place_of, size_of, bytes_of}
use Rattle.model.specs.Lawful.{SameSpace, cleared, Spares, Covers, EffectInside}
use Rattle.model.specs.Sound.{Live}
use Rattle.model.specs.Step.{Machine, Ready, Issue, decision, step, scratch_after}
use Rattle.model.specs.Tables.{space_at}
use Rattle.model.proofs.Lawful.{lawful_step}
use Rattle.model.proofs.Sound.{ready_kept}
use Rattle.model.proofs.SpaceBytes.{clear_spared, clear_covered, store_other}
use Rattle.model.proofs.WithdrawEffects.{reset_does}
use Rattle.isolation.specs.Reaches.{Primary, Reaches}
use Rattle.isolation.proofs.Reaching.{touches}

-- a space in the same frames has the same bytes
same_bytes_lem : (s t : State) (u : ℕ) (m : List ℕ) → SameSpace s t u → bytes_of t u m ≡ bytes_of s u m
unfolding bytes_of place_of
same_bytes_lem s t u m same =
    ap₂ (λ (pl : ℕ → ℕ) (n : ℕ). get pl 0 n m)
    (fun_ext (λ a. ap (λ f. f * 4096 + a % 4096) (same.frames (a / 4096))))
    (ap (λ (x : Space). x.pages * 4096) same.space)

abbrev reset_by : Caller → (buffer : List ℕ) → Issue
reset_by c b = record { call = record { caller = c; operation = Reset }; buffer = b }

module _ (m : Machine) (ready : Ready m) (i : Issue) (u : ℕ) where
  abbrev s : State
  s = m.tables

  abbrev d : Decision
  d = decision m i

  abbrev t : State
  t = after s d

  module _ (live : Live t.spaces u) (away : Reaches m i (space_at t.spaces u).id → ⊥) where
    after_ready : Ready (step m i).machine
    after_ready = ready_kept m i ready

    -- none of its frames is cleared
    spared : (e : Effect) → d.effect ≡ e → EffectInside t (length i.buffer) e → Spares t (cleared e) u → bytes_of t u (scratch_after t e m.scratch i.buffer) ≡ bytes_of t u m.scratch
    unfolding scratch_after step
    spared none e within h = refl
    spared (fetch v a) e within h = refl
    spared (clear fs) e within h = clear_spared t fs m.scratch u h
    spared (store v a) e within h = go (ℕ_discrete u v)
      where
        go : Dec (u ≡ v) → bytes_of t u (scratch_after t (store v a) m.scratch i.buffer) ≡ bytes_of t u m.scratch
        go (yes q) = absurd (away (rw q (rw e at (touches m ready i))))
        go (no q) = store_other t after_ready.sound v a i.buffer m.scratch within u live q

    -- all its frames are
    covered : (e : Effect) → Covers t (cleared e) u → bytes_of t u (scratch_after t e m.scratch i.buffer) ≡ replicate (size_of t.spaces u) 0
    unfolding scratch_after step
    covered none h = true_false (h 0 (after_ready.sound.spaces.pages u live)) refl
    covered (fetch v a) h = true_false (h 0 (after_ready.sound.spaces.pages u live)) refl
    covered (store v a) h = true_false (h 0 (after_ready.sound.spaces.pages u live)) refl
    covered (clear fs) h = clear_covered t fs m.scratch u h

    pub unreached : (SameSpace s t u × (bytes_of t u (step m i).machine.scratch ≡ bytes_of s u m.scratch)) ⊎ ((Live s.spaces u → ⊥) × (bytes_of t u (step m i).machine.scratch ≡ replicate (size_of t.spaces u) 0))
    unfolding step
    unreached =
        let law = lawful_step m i ready in
        ⊎_elim
        (λ (k : SameSpace s t u × Spares t (cleared d.effect) u). inl (k.0, spared d.effect refl law.inside k.1 ∙ same_bytes_lem s t u m.scratch k.0))
        (λ (k : (Live s.spaces u → ⊥) × Covers t (cleared d.effect) u). inr (k.0, covered d.effect k.1)) (law.kept u live)

-- RESET: "Primary bytes, registers and mode stay"
pub primary_stays : (m : Machine) → Ready m → (c : Caller) (b : List ℕ) → number (step m (reset_by c b)).answer ≡ 0 → (u : ℕ) → Live m.tables.spaces u → Primary m.tables c.guest u
    → bytes_of (step m (reset_by c b)).machine.tables u (step m (reset_by c b)).machine.scratch ≡ bytes_of m.tables u m.scratch
unfolding step
primary_stays m ready c b done u live p =
    let effect = reset_does m.tables (length m.scratch) c (length b) done in
    let same = effect.spaces.kept u (λ o. o.1 p.name) in
    ⊎_elim (λ k. k.1) (λ k. absurd (k.0 live)) (unreached m ready (reset_by c b) u (rw same live) (λ r. r.through))
