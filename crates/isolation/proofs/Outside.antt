-- Frames outside a set of live spaces: what one call does to them, and that free frames and other live spaces' frames are such.
-- Assumes nothing.
use Prim.Native.Nat.{ℕ, ◌/◌, ◌<◌}
use mathlib.Core.Bool.{Bool, true, false}
use mathlib.Core.List.{List}
use mathlib.Core.Logic.{⊎_elim}
use mathlib.Core.Path.{◌≡◌, refl, sym, ap, ◌∙◌}
use native.Mathlib.Omega.{arith}
use Rattle.lists.proofs.Bytes.{get_agree}
use Rattle.lists.proofs.Choice.{true_false}
use Rattle.model.specs.declared.State.{State}
use Rattle.model.specs.Decision.{Decision, after}
use Rattle.model.specs.Frames.{layout, place_of, size_of, bytes_of}
use Rattle.model.specs.Lawful.{SameSpace, cleared, Spares, Covers, Lawful}
use Rattle.model.specs.Sound.{Live, HasFrame, FreeIn, Sound}
use Rattle.model.specs.Tables.{space_at}
use Rattle.model.proofs.Addresses.{place_frame, place_has}
use Rattle.model.proofs.Searches.{live_slot}
use Rattle.isolation.specs.TwoRuns.{Outside, EqualOutside}

-- a frame that is outside after a call was outside before it, unless it was cleared
module _ (X L : ℕ → Bool) (s : State) (n : ℕ) (d : Decision) (law : Lawful s n d) (f : ℕ) (out : Outside X L (after s d) f) (clean : cleared d.effect f ≡ false) where
  abbrev t : State
  t = after s d

  -- no frame of a space all of whose frames were cleared
  not_covered : (r : State) (u : ℕ) → Covers r (cleared d.effect) u → HasFrame (layout r) r.spaces u f → ⊥
  not_covered r u c (p, b, e) = true_false (ap (cleared d.effect) (sym e) ∙ c p b) clean

  live_before : (u : ℕ) → Live s.spaces u → X (space_at s.spaces u).id ≡ true → HasFrame (layout s) s.spaces u f → ⊥
  live_before u l x h = ⊎_elim stays (λ (k : (Live t.spaces u → ⊥) × Covers s (cleared d.effect) u). not_covered s u k.1 h) (law.left u l)
    where
      stays : SameSpace s t u → ⊥
      stays k = out.live u (rw k.space l) (rw k.space x) (h.0, rw k.space h.1, k.frames h.0 ∙ h.2)

  -- a frame that was free is free still: a space that had got it would be new
  free_after : FreeIn s f → FreeIn t f
  free_after was u b l h = ⊎_elim stays (λ (k : (Live s.spaces u → ⊥) × Covers t (cleared d.effect) u). not_covered t u k.1 h) (law.kept u l)
    where
      stays : SameSpace s t u × Spares t (cleared d.effect) u → ⊥
      stays (k, _) = was u b k.live (h.0, rw k.space at h.1, sym (k.frames h.0) ∙ h.2)

  pub outside_before : Outside X L s f
  outside_before = record { live = live_before; free = λ was. out.free (free_after was) }

-- a free frame is outside where L has none, and one that is outside the set of all spaces is free
pub free_outside : (X : ℕ → Bool) (s : State) → Sound s → (f : ℕ) → FreeIn s f → Outside X (λ _. false) s f
free_outside X s ok f free = record { live = λ u l x. free u (live_slot s.spaces u 32 ok.spaces.len l) l; free = λ _. refl }

pub outside_free : (L : ℕ → Bool) (s : State) (f : ℕ) → Outside (λ _. true) L s f → FreeIn s f
outside_free L s f out u b l h = out.live u l refl h

-- the bytes of a live space that is not in the set lie outside it
module _ (X L : ℕ → Bool) (s : State) (ok : Sound s) (u : ℕ) (live : Live s.spaces u) (not_in : X (space_at s.spaces u).id ≡ false) where
  pub own_outside : (a : ℕ) → a < size_of s.spaces u → Outside X L s (place_of (layout s) u a / 4096)
  own_outside a h = record {
    live = λ v l x (p, b, e).
        let same = (ok.spaces.apart u v (a / 4096) p live l (omega arith) b (sym (place_frame (layout s) u a) ∙ sym e)).0 in
        true_false (ap (λ w. X (space_at s.spaces w).id) same ∙ x) not_in;
    free = λ free. absurd (free u (live_slot s.spaces u 32 ok.spaces.len live) live (place_has s.spaces (layout s) u a h));
  }

  pub equal_live : (m₁ m₂ : List ℕ) → EqualOutside X L s m₁ m₂ → bytes_of s u m₁ ≡ bytes_of s u m₂
  unfolding bytes_of
  equal_live m₁ m₂ agree = get_agree (place_of (layout s) u) 0 (size_of s.spaces u) m₁ m₂ (λ k _ h. agree (place_of (layout s) u k) (own_outside k (omega arith)))
