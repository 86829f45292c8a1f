-- In a sound state all runs lie below the number of frames, so in the table of cells and in scratch. Assumes nothing.
use Prim.Native.Nat.{ℕ, ◌+◌, ◌-◌, ◌*◌, ◌/◌, ◌≤◌}
use mathlib.Core.Bool.{true}
use mathlib.Core.List.{List}
use mathlib.Core.Path.{◌≡◌}
use native.Mathlib.Decide.{dec_le}
use native.Mathlib.Omega.{arith}
use lib.ListN.{length}
use Rattle.model.specs.declared.Space.{Space}
use Rattle.model.specs.declared.State.{State}
use Rattle.model.specs.Frames.{frame_of}
use Rattle.model.specs.Sizes.{max_frames}
use Rattle.model.specs.Sound.{Sound}
use Rattle.model.specs.SoundTest.{sound}
use Rattle.model.specs.Tables.{space_at}
use Rattle.model.proofs.SoundTest.{sound_decides}
use Rattle.frames.specs.Runs.{RunsInside}

-- for search
pub run_inside : (ss : List Space) (F u : ℕ) → RunsInside F ss → (space_at ss u).first + (space_at ss u).pages ≤ F
run_inside ss F u r = r.inside u

module _ (s : State) (e : sound s ≡ true) where
  ok : Sound s
  ok = (sound_decides s).to e

  pub runs_inside : RunsInside s.frames s.spaces
  unfolding frame_of
  runs_inside = record { inside = λ u. go u (dec_le 1 (space_at s.spaces u).id) }
    where
      go : (u : ℕ) → Dec (1 ≤ (space_at s.spaces u).id) → (space_at s.spaces u).first + (space_at s.spaces u).pages ≤ s.frames
      go u (yes l) = omega (arith, ok.spaces.pages u l, ok.spaces.inside u ((space_at s.spaces u).pages - 1) l (omega (arith, ok.spaces.pages u l)))
      go u (no n) = rw (ok.spaces.dead u (omega arith)) (omega arith)

  -- for search: in the table of cells, and in scratch
  pub runs_in_table : RunsInside max_frames s.spaces
  runs_in_table = record { inside = λ u. omega (arith, runs_inside.inside u, ok.head.frames_high) }

  module _ (m : List ℕ) (room : length m ≡ s.frames * 4096) where
    pub runs_in_scratch : RunsInside (length m / 4096) s.spaces
    runs_in_scratch = record { inside = λ u. omega (arith, runs_inside.inside u) }

    pub run_in_scratch : (u : ℕ) → (space_at s.spaces u).first * 4096 + (space_at s.spaces u).pages * 4096 ≤ length m
    run_in_scratch u = omega (arith, runs_inside.inside u)
