-- What every call keeps to, as far as bytes are concerned. Each space live after it is unchanged and no frame of it was cleared, or
-- it is new and all its frames were cleared. Each space live before it is unchanged, or it is gone and all its frames were cleared.
-- A frame that is free before and after it was not cleared. And what a fetch or store touches lies within a live space.
use Rattle.std.specs.Prelude.{ℕ, ◌+◌, ◌≤◌, ◌<◌, Bool, true, false, ◌⊎◌, ◌≡◌}
use Rattle.model.specs.declared.State.{State}
use Rattle.model.specs.Decision.{Decision, after, Effect, none, clear, fetch, store}
use Rattle.model.specs.Frames.{layout, frame_of, size_of}
use Rattle.model.specs.Sound.{Live, FreeIn}
use Rattle.model.specs.Tables.{space_at}

-- slot u holds the same space in the same frames
pub record SameSpace (s t : State) (u : ℕ) : Type 0 where
  pub live : Live s.spaces u
  pub space : space_at t.spaces u ≡ space_at s.spaces u
  pub frames : (p : ℕ) → frame_of (layout t) u p ≡ frame_of (layout s) u p

-- n bytes from address a on lie inside the live space of slot u
pub record Inside (t : State) (u a n : ℕ) : Type 0 where
  pub live : Live t.spaces u
  pub fits : a + n ≤ size_of t.spaces u

-- the frames that an effect clears
abbrev pub cleared : Effect → (frame : ℕ) → Bool
cleared none f = false
cleared (clear fs) f = fs f
cleared (fetch u a) f = false
cleared (store u a) f = false

-- none of these frames is one of the space in slot u
abbrev pub Spares : State → (frames : ℕ → Bool) → (slot : ℕ) → Type 0
Spares s fs u = (p : ℕ) → p < (space_at s.spaces u).pages → fs (frame_of (layout s) u p) ≡ false

-- every frame of the space in slot u is one of these
abbrev pub Covers : State → (frames : ℕ → Bool) → (slot : ℕ) → Type 0
Covers s fs u = (p : ℕ) → p < (space_at s.spaces u).pages → fs (frame_of (layout s) u p) ≡ true

abbrev pub EffectInside : (t : State) (buffer : ℕ) → Effect → Type 0
EffectInside t n none = Unit {0}
EffectInside t n (clear fs) = Unit {0}
EffectInside t n (fetch u a) = Inside t u a n
EffectInside t n (store u a) = Inside t u a n

pub record Lawful (s : State) (n : ℕ) (d : Decision) : Type 0 where
  pub frames : (after s d).frames ≡ s.frames
  pub kept : (u : ℕ) → Live (after s d).spaces u → (SameSpace s (after s d) u × Spares (after s d) (cleared d.effect) u) ⊎ ((Live s.spaces u → ⊥) × Covers (after s d) (cleared d.effect) u)
  pub left : (u : ℕ) → Live s.spaces u → SameSpace s (after s d) u ⊎ ((Live (after s d).spaces u → ⊥) × Covers s (cleared d.effect) u)
  pub idle : (f : ℕ) → FreeIn s f → FreeIn (after s d) f → cleared d.effect f ≡ false
  pub inside : EffectInside (after s d) n d.effect
