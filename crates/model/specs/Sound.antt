-- Paper 01, "A sound state", as statements, clause by clause, each with the tables that it reads.
-- That an array has its length, and a sequence 8 bits, is given by the types of the code; it stands here so that the
-- definitions say all that they lean on.
use Rattle.std.specs.Prelude.{ℕ, ◌+◌, ◌≤◌, ◌<◌, true, false, ◌≢◌, ◌⊎◌, List, ◌≡◌, length}
use Rattle.model.specs.declared.Cell.{Cell}
use Rattle.model.specs.declared.Cpu.{Cpu}
use Rattle.model.specs.declared.Entry.{Entry}
use Rattle.model.specs.declared.Guest.{Guest}
use Rattle.model.specs.declared.Permit.{Permit}
use Rattle.model.specs.declared.Right.{Right}
use Rattle.model.specs.declared.Right.TheVariants.{Read}
use Rattle.model.specs.declared.Space.{Space}
use Rattle.model.specs.declared.Standing.TheVariants.{Valid}
use Rattle.model.specs.declared.State.{State}
use Rattle.model.specs.Changes.{allows}
use Rattle.model.specs.Frames.{Layout, layout, frame_of}
use Rattle.model.specs.Names.{good_name}
use Rattle.model.specs.Searches.{enrolled, primaries, data_spaces}
use Rattle.model.specs.Sizes.{max_frames, spent_identification, max_allowance, max_list, guest_count, slot_count, register_count, max_key}
use Rattle.model.specs.Tables.{no_space, no_guest, zero_cpu, unused_entry, no_cell, space_at, guest_at, guest_place, cpu_at, grant_at, entry_at, cell_at}

-- the slot u holds a live space
abbrev pub Live : List Space → (slot : ℕ) → Type 0
Live ss u = 1 ≤ (space_at ss u).id

pub record IsGuest (g : ℕ) : Type 0 where
  pub low : 1 ≤ g
  pub high : g ≤ guest_count

pub record IsEntry (n : ℕ) : Type 0 where
  pub low : 2 ≤ n
  pub high : n ≤ 31

-- "F in range; next identification 1 to 65,536."
pub record HeadOk (frames next : ℕ) : Type 0 where
  pub frames_low : 1 ≤ frames
  pub frames_high : frames ≤ max_frames
  pub next_low : 1 ≤ next
  pub next_high : next ≤ spent_identification

-- "Each live space has an enrolled owner, at least one page, frames inside F that no other live space has, an
-- identification from 1 and below the next and no other's, and a name of the form under Sizes that no other space of its
-- owner has." Frames are spoken of one by one. "Slots of spaces that aren't live .. hold zeros".
pub record SpacesOk (frames next : ℕ) (gs : List Guest) (ss : List Space) (l : Layout) : Type 0 where
  pub len : length ss ≡ slot_count
  pub owner : (u : ℕ) → Live ss u → enrolled gs (space_at ss u).owner ≡ true
  pub pages : (u : ℕ) → Live ss u → 1 ≤ (space_at ss u).pages
  pub inside : (u p : ℕ) → Live ss u → p < (space_at ss u).pages → frame_of l u p < frames
  pub apart : (u v p q : ℕ) → Live ss u → Live ss v → p < (space_at ss u).pages → q < (space_at ss v).pages → frame_of l u p ≡ frame_of l v q → (u ≡ v) × (p ≡ q)
  pub id_below : (u : ℕ) → Live ss u → (space_at ss u).id < next
  pub id_own : (u v : ℕ) → Live ss u → Live ss v → (space_at ss u).id ≡ (space_at ss v).id → u ≡ v
  pub name : (u : ℕ) → Live ss u → good_name (space_at ss u).name ≡ true
  pub name_own : (u v : ℕ) → Live ss u → Live ss v → (space_at ss u).owner ≡ (space_at ss v).owner → (space_at ss u).name ≡ (space_at ss v).name → u ≡ v
  pub dead : (u : ℕ) → (space_at ss u).id ≡ 0 → space_at ss u ≡ no_space

-- "Each enrolled guest has exactly one primary, named BASE, at most its allowance of data spaces, settings in range, and
-- access-register mode only with ASF." "everything of guests not enrolled, hold zeros, .. primary mode. Register values of
-- enrolled guests are free." Paper 02, M-100: "all keys are 0 to 15", access keys too.
pub record GuestsOk (ss : List Space) (gs : List Guest) (cs : List Cpu) : Type 0 where
  pub len : length gs ≡ guest_count
  pub cpus : length cs ≡ guest_count
  pub registers : (k : ℕ) → k < guest_count → length (cpu_at cs k).registers ≡ register_count
  pub primary : (g : ℕ) → enrolled gs g ≡ true → primaries ss g ≡ 1
  pub allowed : (g : ℕ) → enrolled gs g ≡ true → data_spaces ss g ≤ (guest_at gs g).allowance
  pub allowance : (g : ℕ) → enrolled gs g ≡ true → (guest_at gs g).allowance ≤ max_allowance
  pub list_low : (g : ℕ) → enrolled gs g ≡ true → 1 ≤ (guest_at gs g).list
  pub list_high : (g : ℕ) → enrolled gs g ≡ true → (guest_at gs g).list ≤ max_list
  pub mode : (g : ℕ) → enrolled gs g ≡ true → (cpu_at cs (guest_place g)).mode ≡ true → (guest_at gs g).asf ≡ true
  pub key : (g : ℕ) → enrolled gs g ≡ true → (cpu_at cs (guest_place g)).key ≤ max_key
  pub absent : (g : ℕ) → IsGuest g → (guest_at gs g).enrolled ≡ false → guest_at gs g ≡ no_guest
  pub idle : (g : ℕ) → IsGuest g → (guest_at gs g).enrolled ≡ false → cpu_at cs (guest_place g) ≡ zero_cpu

-- "Permits exist only for live spaces of sharing owners, to other enrolled guests." A permit exists where it allows reading.
pub record PermitGround (gs : List Guest) (ss : List Space) (u h : ℕ) : Type 0 where
  pub live : Live ss u
  pub sharing : (guest_at gs (space_at ss u).owner).share ≡ true
  pub guest : enrolled gs h ≡ true
  pub other : h ≢ (space_at ss u).owner

pub record PermitsOk (gs : List Guest) (ss : List Space) (ps : List Permit) : Type 0 where
  pub len : length ps ≡ 256
  pub basis : (u h : ℕ) → u < slot_count → IsGuest h → allows (grant_at ps u h) Read ≡ true → PermitGround gs ss u h

-- "A valid entry names a live space, owned by the guest or permitted to it with at least that right. Entries above L+1 are
-- unused with sequence 0." A guest that is not enrolled has L = 0, so all its entries are above it: "everything of guests
-- not enrolled .. unused".
pub record EntryGround (ss : List Space) (ps : List Permit) (g u : ℕ) (r : Right) : Type 0 where
  pub slot : u < slot_count
  pub live : Live ss u
  pub right : ((space_at ss u).owner ≡ g) ⊎ (allows (grant_at ps u g) r ≡ true)

pub record EntriesOk (gs : List Guest) (ss : List Space) (ps : List Permit) (es : List Entry) : Type 0 where
  pub len : length es ≡ 240
  pub sequence : (g n : ℕ) → IsGuest g → IsEntry n → (entry_at es g n).sequence < 256
  pub basis : (g n u : ℕ) (r : Right) → IsGuest g → IsEntry n → (entry_at es g n).standing ≡ Valid u r → EntryGround ss ps g u r
  pub above : (g n : ℕ) → IsGuest g → IsEntry n → (guest_at gs g).list + 1 < n → entry_at es g n ≡ unused_entry

-- the frame f is that of a page of the space in slot u
abbrev pub HasFrame : Layout → List Space → (slot frame : ℕ) → Type 0
HasFrame l ss u f = (p : ℕ) × (p < (space_at ss u).pages) × (frame_of l u p ≡ f)

-- no live space has the frame f, as none has a frame past F
abbrev pub Free : Layout → List Space → (frame : ℕ) → Type 0
Free l ss f = (u : ℕ) → u < slot_count → Live ss u → HasFrame l ss u f → ⊥

-- the same, by whole tables
abbrev pub FreeIn : State → (frame : ℕ) → Type 0
FreeIn s f = Free (layout s) s.spaces f

-- Paper 02, M-100: "New spaces, and free frames of a sound state, have key 0, mark off; all keys are 0 to 15." Frames are spoken
-- of one by one.
pub record CellsOk (ss : List Space) (l : Layout) (cs : List Cell) : Type 0 where
  pub len : length cs ≡ max_frames
  pub key : (f : ℕ) → (cell_at cs f).key ≤ max_key
  pub free : (f : ℕ) → Free l ss f → cell_at cs f ≡ no_cell

pub record Sound (s : State) : Type 0 where
  pub head : HeadOk s.frames s.next
  pub spaces : SpacesOk s.frames s.next s.guests s.spaces (layout s)
  pub guests : GuestsOk s.spaces s.guests s.cpus
  pub permits : PermitsOk s.guests s.spaces s.permits
  pub entries : EntriesOk s.guests s.spaces s.permits s.entries
  pub cells : CellsOk s.spaces (layout s) s.cells
