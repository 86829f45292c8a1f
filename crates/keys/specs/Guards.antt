-- An access that starts in one block and may reach into the next: both have to allow it where it does.
use Rattle.std.specs.Prelude.{ℕ, ◌+◌, ◌%◌, Bool, leb}
use Rattle.lists.specs.Choice.{both, either}
use Rattle.model.specs.Keys.{allows_key}
use Rattle.model.specs.Sizes.{frame_size}
use Rattle.keys.specs.declared.Guard.{Guard}

unfoldable pub guard_allows : Guard → (storing : Bool) → (address length : ℕ) → Bool
guard_allows g storing a n =
    both (allows_key storing g.key g.block)
    (either (leb (a % frame_size + n) frame_size) (allows_key storing g.key g.beyond))
