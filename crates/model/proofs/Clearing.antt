-- Frames filled with zeros: what stands where then, the bytes of one frame, and what a decision does that clears frames. Assumes
-- nothing.
use Prim.Native.Nat.{ℕ, ◌+◌, ◌*◌, ◌/◌, ◌≤◌, ◌<◌}
use mathlib.Core.Bool.{Bool, true, false}
use mathlib.Core.List.{List}
use mathlib.Core.Path.{◌≡◌, sym, ◌∙◌}
use native.Mathlib.Omega.{arith}
use lib.ListN.{length, get_or, replicate, length-take, length-drop, length-replicate, get_or-replicate}
use lib.Seq.{ext_get_or}
use Rattle.lists.specs.Bytes.{part}
use Rattle.lists.specs.Choice.{choose}
use Rattle.lists.specs.Decides.{Decides}
use Rattle.lists.proofs.Bytes.{length-part, get_or-part}
use Rattle.lists.proofs.Choice.{choose_same, not_so, yes!, no! }
use Rattle.lists.proofs.Maps.{length-map_places, map_at}
use Rattle.model.specs.declared.State.{State}
use Rattle.model.specs.Decision.{Decision, after, clear}
use Rattle.model.specs.Frames.{frame_bytes}
use Rattle.model.specs.Step.{clear_frames, scratch_after}

module _ (fs : ℕ → Bool) (m : List ℕ) where
  pub length-clear_frames : length (clear_frames fs m) ≡ length m
  unfolding clear_frames
  length-clear_frames = length-map_places _ m

  -- a place of these frames holds zero, any other keeps its byte
  pub clears_at : (p : ℕ) → get_or (clear_frames fs m) p 0 ≡ choose (fs (p / 4096)) 0 (get_or m p 0)
  unfolding clear_frames
  clears_at p = map_at _ m 0 (λ k. choose_same (fs (k / 4096)) 0) p

  pub clears_on : (p : ℕ) → fs (p / 4096) ≡ true → get_or (clear_frames fs m) p 0 ≡ 0
  clears_on p e = clears_at p ∙ yes! _ _ e

  pub clears_off : (p : ℕ) → fs (p / 4096) ≡ false → get_or (clear_frames fs m) p 0 ≡ get_or m p 0
  clears_off p e = clears_at p ∙ no! _ _ e

-- the bytes of one frame
module _ (f : ℕ) where
  short : (m : List ℕ) → length (part m (f * 4096) 4096) ≤ 4096
  unfolding part
  short m = simp (length-take, length-drop) (omega arith)

  pub frame_agree : (m₁ m₂ : List ℕ) → length m₁ ≡ length m₂ → ((p : ℕ) → p / 4096 ≡ f → get_or m₁ p 0 ≡ get_or m₂ p 0) → frame_bytes f m₁ ≡ frame_bytes f m₂
  unfolding frame_bytes part
  frame_agree m₁ m₂ room h =
      ext_get_or 0 _ _ long (λ k l.
      let b : k < 4096 = omega (arith, short m₁) in
      get_or-part m₁ (f * 4096) 4096 k 0 b ∙ h (f * 4096 + k) (omega arith) ∙ sym (get_or-part m₂ (f * 4096) 4096 k 0 b))
    where
      long : length (part m₁ (f * 4096) 4096) ≡ length (part m₂ (f * 4096) 4096)
      long = simp (length-take, length-drop, room)

  pub frame_zeroed : (m : List ℕ) → f * 4096 + 4096 ≤ length m → ((p : ℕ) → p / 4096 ≡ f → get_or m p 0 ≡ 0) → frame_bytes f m ≡ replicate 4096 0
  unfolding frame_bytes
  frame_zeroed m room h =
      ext_get_or 0 _ _ (length-part m (f * 4096) 4096 room ∙ sym (length-replicate {A = ℕ} 4096 0)) (λ k l.
      let b : k < 4096 = omega (arith, short m) in
      get_or-part m (f * 4096) 4096 k 0 b ∙ h (f * 4096 + k) (omega arith) ∙ sym (get_or-replicate 4096 k 0 0 b))

-- What a decision that clears frames does to any scratch m: the frames of which G holds are filled with zeros, and every byte of
-- another frame stays.
pub record BytesGo (s : State) (d : Decision) (G : ℕ → Type 0) : Type 0 where
  pub gone : (m b : List ℕ) (p : ℕ) → G (p / 4096) → get_or (scratch_after (after s d) d.effect m b) p 0 ≡ 0
  pub kept : (m b : List ℕ) (p : ℕ) → (G (p / 4096) → ⊥) → get_or (scratch_after (after s d) d.effect m b) p 0 ≡ get_or m p 0

pub bytes_go : (s : State) (d : Decision) (fs : ℕ → Bool) (G : ℕ → Type 0) → d.effect ≡ clear fs → ((f : ℕ) → Decides (fs f) (G f)) → BytesGo s d G
unfolding scratch_after
bytes_go s d fs G e decides = rw e (record {
  gone = λ m b p y. clears_on fs m p ((decides (p / 4096)).of y);
  kept = λ m b p n. clears_off fs m p (not_so _ (λ t. n ((decides (p / 4096)).to t)));
})
