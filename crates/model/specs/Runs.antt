-- Paper 01: "ENROL and CREATE take the lowest unused space slot and the lowest run of free frames"; "ADD takes the lowest
-- unused entry". What a run is, as a statement. The searches are proved to find the lowest (proofs/Runs).
use Rattle.std.specs.Prelude.{ℕ, ◌+◌, ◌≤◌, ◌<◌, ◌⊎◌, ◌≡◌}
use Rattle.lists.specs.Lowest.{Lowest}
use Rattle.model.specs.declared.State.{State}
use Rattle.model.specs.Frames.{layout, frame_of}
use Rattle.model.specs.Sizes.{slot_count}
use Rattle.model.specs.Sound.{Live, Free}
use Rattle.model.specs.Tables.{space_at}

-- a "run of that many neighbouring free frames": n frames from f on, inside F, none of them a frame of a live space
pub record IsRun (s : State) (n f : ℕ) : Type 0 where
  pub start : f < s.frames
  pub inside : f + n ≤ s.frames
  pub free : (k : ℕ) → k < n → Free (layout s) s.spaces (f + k)

-- Paper 02, M-103: the frame f comes "right after a live space's last frame", which is that of its last page
pub record AfterSpace (s : State) (f : ℕ) : Type 0 where
  pub slot : ℕ
  pub page : ℕ
  pub low : slot < slot_count
  pub live : Live s.spaces slot
  pub last : page + 1 ≡ (space_at s.spaces slot).pages
  pub follows : frame_of (layout s) slot page + 1 ≡ f

-- the frame f is where 02 says that the lowest run starts: "at frame 0 or right after a live space's last frame"
abbrev pub StartsAt : State → (frame : ℕ) → Type 0
StartsAt s f = (f ≡ 0) ⊎ AfterSpace s f

-- "the lowest run of the asked length, where there is one, starts" there. The request asks it of sound states; it holds in every
-- state.
abbrev pub RunStarts : Type 0
RunStarts = (s : State) (n f : ℕ) → Lowest (IsRun s n) s.frames f → f < s.frames → StartsAt s f
