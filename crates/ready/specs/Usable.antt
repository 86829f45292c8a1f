-- Check 1 where a part of the lent scratch is the machine's.
use Rattle.std.specs.Prelude.{ℕ, ◌*◌, Bool, leb}
use Rattle.lists.specs.Choice.{both}
use Rattle.model.specs.declared.State.{State}
use Rattle.model.specs.Sizes.{frame_size}
use Rattle.model.specs.SoundTest.{sound}

abbrev pub usable : State → (room : ℕ) → Bool
usable s room = both (sound s) (leb (s.frames * frame_size) room)
