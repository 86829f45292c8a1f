-- Looking things up in the tables: by identification, by owner and name, and the lowest that is free.
-- A search that finds nothing gives the number of places.
use Rattle.std.specs.Prelude.{ℕ, ◌+◌, Bool, true, false, not, List, leb, eqb}
use Rattle.lists.specs.Choice.{both}
use Rattle.lists.specs.Places.{every, lowest, count}
use Rattle.model.specs.declared.Entry.{Entry}
use Rattle.model.specs.declared.Guest.{Guest}
use Rattle.model.specs.declared.Space.{Space}
use Rattle.model.specs.declared.Standing.{Standing}
use Rattle.model.specs.declared.Standing.TheVariants.{Unused, Valid, Revoked}
use Rattle.model.specs.declared.State.{State}
use Rattle.model.specs.Frames.{Layout, frame_free, layout}
use Rattle.model.specs.Names.{base_name}
use Rattle.model.specs.Sizes.{slot_count, guest_count}
use Rattle.model.specs.Tables.{space_at, live, guest_at, entry_at}

-- 1 to 8 and enrolled
unfoldable pub enrolled : List Guest → (guest : ℕ) → Bool
enrolled gs g = both (both (leb 1 g) (leb g guest_count)) (guest_at gs g).enrolled

abbrev pub is_space : (id : ℕ) → Space → Bool
is_space i x = both (live x) (eqb x.id i)

abbrev pub is_owned : (guest : ℕ) → Space → Bool
is_owned g x = both (live x) (eqb x.owner g)

abbrev pub is_named : (guest name : ℕ) → Space → Bool
is_named g n x = both (is_owned g x) (eqb x.name n)

-- a primary space is its owner's space named BASE; its other spaces are data spaces
abbrev pub is_primary : (guest : ℕ) → Space → Bool
is_primary g x = is_named g base_name x

abbrev pub is_data : (guest : ℕ) → Space → Bool
is_data g x = both (is_owned g x) (not (eqb x.name base_name))

-- the live space of an identification
unfoldable pub slot_of : List Space → (id : ℕ) → ℕ
slot_of ss i = lowest (λ u. is_space i (space_at ss u)) slot_count

-- the live space of an owner and a name, never of a name alone
unfoldable pub slot_named : List Space → (guest name : ℕ) → ℕ
slot_named ss g n = lowest (λ u. is_named g n (space_at ss u)) slot_count

unfoldable pub primary_slot : List Space → (guest : ℕ) → ℕ
primary_slot ss g = slot_named ss g base_name

unfoldable pub primaries : List Space → (guest : ℕ) → ℕ
primaries ss g = count (λ u. is_primary g (space_at ss u)) slot_count

unfoldable pub data_spaces : List Space → (guest : ℕ) → ℕ
data_spaces ss g = count (λ u. is_data g (space_at ss u)) slot_count

-- "the lowest unused space slot"
unfoldable pub free_slot : List Space → ℕ
free_slot ss = lowest (λ u. not (live (space_at ss u))) slot_count

-- n neighbouring free frames from f on, inside F
unfoldable pub run_free : (frames : ℕ) → Layout → List Space → (pages first : ℕ) → Bool
run_free F l ss n f = both (leb (f + n) F) (every (λ k. frame_free l ss (f + k)) n)

-- "the lowest run of free frames": where it starts, F where there is none
unfoldable pub run_in : (frames : ℕ) → Layout → List Space → (pages : ℕ) → ℕ
run_in F l ss n = lowest (run_free F l ss n) F

abbrev pub free_run : State → (pages : ℕ) → ℕ
free_run s n = run_in s.frames (layout s) s.spaces n

unfoldable pub is_unused : Standing → Bool
is_unused Unused = true
is_unused (Valid u r) = false
is_unused Revoked = false

-- whether ADD may take an entry, by its standing
abbrev pub may_take : Standing → Bool
may_take x = is_unused x

-- "ADD takes the lowest unused entry": its place in a list of L entries, counted from 0; L where there is none
unfoldable pub free_entry : List Entry → (guest list : ℕ) → ℕ
free_entry es g l = lowest (λ k. may_take (entry_at es g (k + 2)).standing) l
