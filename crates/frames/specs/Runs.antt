-- Where the runs of spaces lie, and the slots of some spaces.
use Rattle.std.specs.Prelude.{ℕ, ◌+◌, ◌≤◌, Bool, List}
use Rattle.model.specs.declared.Space.{Space}
use Rattle.model.specs.Tables.{space_at}

-- the frames of all spaces lie below a number of frames
pub record RunsInside (frames : ℕ) (ss : List Space) : Type 0 where
  pub inside : (u : ℕ) → (space_at ss u).first + (space_at ss u).pages ≤ frames

-- the slots of the spaces of which f holds
unfoldable pub slots_of : (Space → Bool) → List Space → (slot : ℕ) → Bool
slots_of f ss u = f (space_at ss u)
