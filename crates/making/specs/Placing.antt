-- What is decided of a call that makes a space, on the tables that it looks at: it is refused, or the space goes into a slot.
use Rattle.std.specs.Prelude.{ℕ, ◌<◌, List, Result, Ok, Err, ◌≡◌}
use Rattle.model.specs.declared.Answer.{Answer}
use Rattle.model.specs.declared.Call.{Call}
use Rattle.model.specs.declared.Change.{Change}
use Rattle.model.specs.declared.Guest.{Guest}
use Rattle.model.specs.declared.Space.{Space}
use Rattle.model.specs.declared.State.{State}
use Rattle.model.specs.Calls.{judge, making, new_space}
use Rattle.model.specs.Decision.{refuse}
use Rattle.model.specs.Searches.{free_slot, free_run}
use Rattle.model.specs.Sizes.{slot_count, spent_identification}
use Rattle.model.specs.Sound.{IsGuest}
use Rattle.making.specs.declared.Placed.{Placed}

-- the state s has these tables
pub record HasTables (s : State) (F i : ℕ) (ss : List Space) : Type 0 where
  pub frames : s.frames ≡ F
  pub next : s.next ≡ i
  pub spaces : s.spaces ≡ ss

-- the checks 9, 11 and 10 pass, and x is the new space, for slot u
pub record PlacedAt (s : State) (guest name pages u : ℕ) (x : Space) : Type 0 where
  pub slot : u ≡ free_slot s.spaces
  pub low : u < slot_count
  pub unspent : s.next < spent_identification
  pub run : free_run s pages < s.frames
  pub space : x ≡ new_space s guest name pages

-- one of these checks refuses, in every state with these tables
abbrev pub NotPlaced : (frames next : ℕ) → List Space → (pages : ℕ) → Answer → Type 0
NotPlaced F next ss n a = (s : State) → HasTables s F next ss → (c : Change) → making s n c ≡ refuse a

-- these checks, in every state with these tables
abbrev pub PlacedTo : (frames next : ℕ) → List Space → (guest name pages : ℕ) → Result Placed Answer → Type 0
PlacedTo F next ss g name n (Err a) = NotPlaced F next ss n a
PlacedTo F next ss g name n (Ok x) = (s : State) → HasTables s F next ss → PlacedAt s g name n x.slot x.space

-- the call k passes all its checks: it makes the space x of that name in slot u, by the change c
pub record CallPlacedAt (s : State) (k : Call) (name pages : ℕ) (c : Change) (u : ℕ) (x : Space) : Type 0 where
  pub guest : IsGuest k.caller.guest
  pub judged : judge s k 0 ≡ making s pages c
  pub placed : PlacedAt s k.caller.guest name pages u x

-- the call k is refused in every state with these tables
abbrev pub CallNotPlaced : (frames next : ℕ) → List Space → List Guest → Call → Answer → Type 0
CallNotPlaced F next ss gs k a = (s : State) → HasTables s F next ss → s.guests ≡ gs → judge s k 0 ≡ refuse a

-- the call k, which makes a space by the change c, is decided in every state with these tables
abbrev pub CallPlacedTo : (frames next : ℕ) → List Space → List Guest → Call → (name pages : ℕ) → (State → Change) → Result Placed Answer → Type 0
CallPlacedTo F next ss gs k name n c (Err a) = CallNotPlaced F next ss gs k a
CallPlacedTo F next ss gs k name n c (Ok x) = (s : State) → HasTables s F next ss → s.guests ≡ gs → CallPlacedAt s k name n (c s) x.slot x.space
