-- Where the bytes of a space lie. `frame_of` alone knows how the pages of a space are laid out in frames.
use Rattle.std.specs.Prelude.{ℕ, ◌+◌, ◌*◌, ◌/◌, ◌%◌, Bool, not, List, eqb}
use Rattle.lists.specs.Bytes.{get, part}
use Rattle.lists.specs.Choice.{implies}
use Rattle.lists.specs.Places.{every, some}
use Rattle.model.specs.declared.Space.{Space}
use Rattle.model.specs.declared.State.{State}
use Rattle.model.specs.Sizes.{frame_size, slot_count}
use Rattle.model.specs.Tables.{space_at, live}

-- the table that says where pages lie
abbrev pub Layout : Type 0
Layout = List Space

abbrev pub layout : State → Layout
layout s = s.spaces

-- the frame of page p of the space in slot u
unfoldable pub frame_of : Layout → (slot page : ℕ) → ℕ
frame_of l u p = (space_at l u).first + p

-- the place in scratch of the byte at address a of the space in slot u
unfoldable pub place_of : Layout → (slot address : ℕ) → ℕ
place_of l u a = frame_of l u (a / frame_size) * frame_size + a % frame_size

abbrev pub size_of : List Space → (slot : ℕ) → ℕ
size_of ss u = (space_at ss u).pages * frame_size

-- the bytes of the space in slot u, from address 0 to its last
unfoldable pub bytes_of : State → (slot : ℕ) → (scratch : List ℕ) → List ℕ
bytes_of s u m = get (place_of (layout s) u) 0 (size_of s.spaces u) m

-- the bytes of a frame
unfoldable pub frame_bytes : (frame : ℕ) → (scratch : List ℕ) → List ℕ
frame_bytes f m = part m (f * frame_size) frame_size

-- the space in slot u has the frame f
unfoldable pub has_frame : Layout → List Space → (slot frame : ℕ) → Bool
has_frame l ss u f = some (λ p. eqb (frame_of l u p) f) (space_at ss u).pages

-- no live space has the frame f
unfoldable pub frame_free : Layout → List Space → (frame : ℕ) → Bool
frame_free l ss f = every (λ u. implies (live (space_at ss u)) (not (has_frame l ss u f))) slot_count
