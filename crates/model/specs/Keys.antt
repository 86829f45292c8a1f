-- Paper 02, M-100, "Storage keys on each block": "Each frame of a space gets a 4-bit key and a fetch-protect mark, as in
-- key-controlled protection of ESA/390".
use Rattle.std.specs.Prelude.{ℕ, ◌+◌, ◌/◌, Bool, not, eqb}
use Rattle.lists.specs.Choice.{both, either}
use Rattle.lists.specs.Places.{every}
use Rattle.model.specs.declared.Cell.{Cell}
use Rattle.model.specs.declared.State.{State}
use Rattle.model.specs.Frames.{layout, frame_of}
use Rattle.model.specs.Sizes.{frame_size}
use Rattle.model.specs.Tables.{cell_at}

-- "a store is allowed if the access key is 0 or equals the block's; a fetch also if the mark is off"
unfoldable pub allows_key : (storing : Bool) → (key : ℕ) → Cell → Bool
allows_key storing k c = either (either (eqb k 0) (eqb k c.key)) (both (not storing) (not c.mark))

-- what protects the block in which the byte at address a of the space in slot u lies
abbrev pub block_at : State → (slot address : ℕ) → Cell
block_at s u a = cell_at s.cells (frame_of (layout s) u (a / frame_size))

-- "An access across several blocks needs all of them to allow it": of n bytes from address a on, the block of each
unfoldable pub key_permits : State → (storing : Bool) → (key slot address length : ℕ) → Bool
key_permits s storing k u a n = every (λ i. allows_key storing k (block_at s u (a + i))) n
