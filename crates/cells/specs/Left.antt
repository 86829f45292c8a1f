-- What is left of a column of numbers, one for each frame, where the frames of live spaces get 0.
use Rattle.std.specs.Prelude.{ℕ, ◌+◌, ◌≤◌, ◌<◌, Bool, not, List, ◌≡◌, length, get_or}
use Rattle.lists.specs.Choice.{choose, implies}
use Rattle.model.specs.declared.Space.{Space}
use Rattle.model.specs.Frames.{frame_free}
use Rattle.model.specs.Leaves.{in_run}
use Rattle.model.specs.Sizes.{slot_count, max_frames}
use Rattle.model.specs.Tables.{space_at, live}

-- the numbers from the first place up to the end are 0 now, and the others stand
pub record Cleared (before after : List ℕ) (first end : ℕ) : Type 0 where
  pub long : 512 ≤ length after
  pub gone : (k : ℕ) → first ≤ k → k < end → get_or after k 0 ≡ 0
  pub kept : (k : ℕ) → (first ≤ k → k < end → ⊥) → get_or after k 0 ≡ get_or before k 0

-- the space is not live, or the frame is none of its own
unfoldable pub outside : Space → (frame : ℕ) → Bool
outside x f = implies (live x) (not (in_run x.first x.pages f))

abbrev pub left_by : Space → List ℕ → (frame : ℕ) → ℕ
left_by x ws f = choose (outside x f) (get_or ws f 0) 0

abbrev pub left_at : List Space → List ℕ → (frame : ℕ) → ℕ
left_at ss ws f = choose (frame_free ss ss f) (get_or ws f 0) 0

-- where the space is live, its frames have cells
pub record Fits (x : Space) : Type 0 where
  pub inside : 1 ≤ x.id → x.first + x.pages ≤ max_frames

pub record AllFit (ss : List Space) : Type 0 where
  pub at : (u : ℕ) → u < slot_count → Fits (space_at ss u)
