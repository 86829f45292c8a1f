-- What done calls change in the tables: one element, or all that belongs to spaces that are withdrawn; and `applied`, the
-- tables after any change.
use Rattle.std.specs.Prelude.{ℕ, ◌+◌, ◌/◌, ◌%◌, Bool, true, false, not, List, set, eqb}
use Rattle.lists.specs.Choice.{choose, both, either}
use Rattle.lists.specs.Places.{some, map_places}
use Rattle.model.specs.declared.Cell.{Cell}
use Rattle.model.specs.declared.Change.{Change}
use Rattle.model.specs.declared.Change.TheVariants.{Keep, SetPermit, SetEntry, SetRegister, SetMode, AddSpace, AddGuest, DestroySpace, IsolateSpace, ResetGuest, SetKey, SetCell}
use Rattle.model.specs.declared.Entry.{Entry}
use Rattle.model.specs.declared.Grant.{Grant}
use Rattle.model.specs.declared.Grant.TheVariants.{Nothing, Reading, Writing}
use Rattle.model.specs.declared.Permit.{Permit}
use Rattle.model.specs.declared.Right.{Right}
use Rattle.model.specs.declared.Right.TheVariants.{Read, Write}
use Rattle.model.specs.declared.Space.{Space}
use Rattle.model.specs.declared.Standing.{Standing}
use Rattle.model.specs.declared.Standing.TheVariants.{Unused, Valid, Revoked}
use Rattle.model.specs.declared.State.{State}
use Rattle.model.specs.Frames.{Layout, layout, has_frame}
use Rattle.model.specs.Searches.{is_owned, is_data}
use Rattle.model.specs.Sizes.{slot_count}
use Rattle.model.specs.Tables.{no_space, no_permit, no_cell, space_at, cpu_at, with_next, with_spaces, with_guests, with_cpus, with_permits, with_entries, with_cells, with_registers, with_mode, with_key}

-- Rights.
-- "write includes read"
unfoldable pub allows : Grant → Right → Bool
allows Nothing r = false
allows Reading Read = true
allows Reading Write = false
allows Writing r = true

-- "The right becomes the greater of old and new"
unfoldable pub raised : Grant → Right → Grant
raised Nothing Read = Reading
raised Nothing Write = Writing
raised Reading Read = Reading
raised Reading Write = Writing
raised Writing r = Writing

-- Entries.
-- "A sequence .. each time the entry goes from valid or revoked to unused, goes up by one; it wraps from 255 to 0."
unfoldable pub released_from : Standing → (sequence : ℕ) → Entry
released_from Unused q = record { standing = Unused; sequence = q }
released_from (Valid u r) q = record { standing = Unused; sequence = (q + 1) % 256 }
released_from Revoked q = record { standing = Unused; sequence = (q + 1) % 256 }

unfoldable pub released : Entry → Entry
released e = released_from e.standing e.sequence

-- a valid entry for a slot of which the test holds becomes revoked
unfoldable pub revoked_from : (ℕ → Bool) → Standing → Standing
revoked_from t Unused = Unused
revoked_from t (Valid u r) = choose (t u) Revoked (Valid u r)
revoked_from t Revoked = Revoked

unfoldable pub revoked : (ℕ → Bool) → Entry → Entry
revoked t e = record { standing = revoked_from t e.standing; sequence = e.sequence }

-- the guest in whose list the entry at place k stands, and the slot whose permit stands at place k
abbrev pub list_owner : ℕ → ℕ
list_owner k = k / 30 + 1

abbrev pub permit_slot : ℕ → ℕ
permit_slot k = k / 8

-- RESET: "all the caller's entries become unused"
unfoldable pub released_all : (guest : ℕ) → List Entry → List Entry
released_all g es = map_places (λ k e. choose (eqb (list_owner k) g) (released e) e) es

-- Withdrawing spaces. DESTROY, ISOLATE and RESET are one change over two sets of slots: `gone`, whose spaces are
-- destroyed, and `closed`, whose permits go.
unfoldable pub vacated : (gone : ℕ → Bool) → List Space → List Space
vacated gone ss = map_places (λ u x. choose (gone u) no_space x) ss

unfoldable pub unpermitted : (closed : ℕ → Bool) → List Permit → List Permit
unpermitted closed ps = map_places (λ k p. choose (closed (permit_slot k)) no_permit p) ps

-- the frame f is one of a space that goes
unfoldable pub freed : Layout → List Space → (gone : ℕ → Bool) → (frame : ℕ) → Bool
freed l ss gone f = some (λ u. both (gone u) (has_frame l ss u f)) slot_count

-- paper 02, M-100: "free frames of a sound state, have key 0, mark off"
unfoldable pub blanked : (freed : ℕ → Bool) → List Cell → List Cell
blanked freed cs = map_places (λ f c. choose (freed f) no_cell c) cs

-- whether guest h's valid entry for slot u is revoked: every guest's for a destroyed space, and for a closed one
-- every guest's but the owner's
unfoldable pub loses : List Space → (gone closed : ℕ → Bool) → (guest slot : ℕ) → Bool
loses ss gone closed h u = either (gone u) (both (closed u) (not (eqb (space_at ss u).owner h)))

unfoldable pub revoked_all : (ℕ → ℕ → Bool) → List Entry → List Entry
revoked_all t es = map_places (λ k e. revoked (t (list_owner k)) e) es

unfoldable pub withdrawn : (gone closed : ℕ → Bool) → State → State
withdrawn gone closed s =
    with_cells
    (with_entries
    (with_permits (with_spaces s (vacated gone s.spaces)) (unpermitted closed s.permits))
    (revoked_all (loses s.spaces gone closed) s.entries))
    (blanked (freed (layout s) s.spaces gone) s.cells)

-- "RESET: all the caller's entries become unused, its data spaces are destroyed, its primary is isolated. Primary bytes,
-- registers and mode stay"
unfoldable pub reset_tables : State → (guest : ℕ) → State
reset_tables s g =
    let t = withdrawn (λ u. is_data g (space_at s.spaces u)) (λ u. is_owned g (space_at s.spaces u)) s in
    with_entries t (released_all g t.entries)

-- Making a space: it stands in slot u, and its identification has been given.
abbrev pub space_added : State → (slot : ℕ) → Space → State
space_added s u x = with_next (with_spaces s (set s.spaces u x)) (s.next + 1)

-- The tables after a change: nothing, one element, a space made, spaces withdrawn. `k` is a place in the table of the element.
abbrev pub applied : State → Change → State
applied s Keep = s
applied s (SetPermit k p) = with_permits s (set s.permits k p)
applied s (SetEntry k e) = with_entries s (set s.entries k e)
applied s (SetRegister k r v) = with_cpus s (set s.cpus k (with_registers (cpu_at s.cpus k) (set (cpu_at s.cpus k).registers r v)))
applied s (SetMode k m) = with_cpus s (set s.cpus k (with_mode (cpu_at s.cpus k) m))
applied s (AddSpace u x) = space_added s u x
applied s (AddGuest u x k y) = space_added (with_guests s (set s.guests k y)) u x
applied s (DestroySpace u) = withdrawn (eqb u) (eqb u) s
applied s (IsolateSpace u) = withdrawn (λ v. false) (eqb u) s
applied s (ResetGuest g) = reset_tables s g
applied s (SetKey k x) = with_cpus s (set s.cpus k (with_key (cpu_at s.cpus k) x))
applied s (SetCell f c) = with_cells s (set s.cells f c)
