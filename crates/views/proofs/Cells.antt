-- The cell of a page that a space has stands at its frame. Assumes nothing.
use Prim.Native.Nat.{ℕ, ◌<◌}
use mathlib.Core.Path.{◌≡◌}
use native.Mathlib.Omega.{arith}
use Rattle.model.specs.declared.State.{State}
use Rattle.model.specs.Frames.{layout, frame_of}
use Rattle.model.specs.Sound.{Live, Sound}
use Rattle.model.specs.Tables.{space_at}
use Rattle.views.specs.Views.{cell_place}

pub cell_frame : (s : State) (u p : ℕ) → Sound s → Live s.spaces u → p < (space_at s.spaces u).pages → cell_place (space_at s.spaces u) p ≡ frame_of (layout s) u p
unfolding cell_place frame_of
cell_frame s u p ok live b = omega (arith, ok.spaces.inside u p live b, ok.head.frames_high)
