-- Where the bytes of live spaces lie: inside scratch, no two at one place, and each in a frame that its space has. Assumes nothing.
use Rattle.model.specs.Tables.{space_at}
use Rattle.model.specs.Lawful.{Covers}
use Rattle.model.specs.declared.State.{State}
use Prim.Native.Nat.{ℕ, ◌*◌, ◌/◌, ◌≤◌, ◌<◌}
use mathlib.Core.List.{List}
use mathlib.Core.Path.{◌≡◌, refl, sym, ap}
use native.Mathlib.Decide.{dec_le}
use native.Mathlib.Omega.{arith}
use Rattle.model.specs.declared.Guest.{Guest}
use Rattle.model.specs.declared.Space.{Space}
use Rattle.model.specs.Frames.{Layout, place_of, size_of, layout, frame_of, has_frame}
use Rattle.model.specs.Sound.{Live, SpacesOk, HasFrame, Sound}
use Rattle.model.proofs.Runs.{d_has}

module _ (F next : ℕ) (gs : List Guest) (ss : List Space) (l : Layout) (ok : SpacesOk F next gs ss l) where
  pub place_inside : (u a : ℕ) → Live ss u → a < size_of ss u → place_of l u a < F * 4096
  unfolding place_of
  place_inside u a lu h = omega (arith, ok.inside u (a / 4096) lu (omega arith))

  pub place_apart : (u v a b : ℕ) → Live ss u → Live ss v → a < size_of ss u → b < size_of ss v → place_of l u a ≡ place_of l v b → (u ≡ v) × (a ≡ b)
  unfolding place_of
  place_apart u v a b lu lv ha hb e =
      let q = ok.apart u v (a / 4096) (b / 4096) lu lv (omega arith) (omega arith) (omega arith) in
      (q.0, omega (arith, q.1))

-- the byte at address a lies in the frame of its page, so at a place of a frame that the space has
pub place_frame : (l : Layout) (u a : ℕ) → place_of l u a / 4096 ≡ frame_of l u (a / 4096)
unfolding place_of
place_frame l u a = omega arith

pub place_has : (ss : List Space) (l : Layout) (u a : ℕ) → a < size_of ss u → HasFrame l ss u (place_of l u a / 4096)
place_has ss l u a h = (a / 4096, omega arith, sym (place_frame l u a))

-- a slot with a page is live
pub page_live : (s : State) → Sound s → (u p : ℕ) → p < (space_at s.spaces u).pages → Live s.spaces u
page_live s ok u p h = go (dec_le 1 (space_at s.spaces u).id)
  where
    go : Dec (1 ≤ (space_at s.spaces u).id) → Live s.spaces u
    go (yes l) = l
    go (no n) = absurd (omega (arith, ap (λ (x : Space). x.pages) (ok.spaces.dead u (omega arith))))

-- a space has its own frames
pub covers_own : (s : State) (u : ℕ) → Covers s (has_frame (layout s) s.spaces u) u
covers_own s u p h = (d_has (layout s) s.spaces u _).of (p, h, refl)
