-- Paper 01, "A sound state", as a Boolean. It is proved true exactly for the states that are sound (proofs/SoundTest).
use Rattle.std.specs.Prelude.{ℕ, ◌+◌, Bool, true, not, List, length, get_or, leb, ltb, eqb}
use Rattle.lists.specs.Choice.{choose, both, either, implies}
use Rattle.lists.specs.Places.{every}
use Rattle.model.specs.declared.Cell.{Cell}
use Rattle.model.specs.declared.Cpu.{Cpu}
use Rattle.model.specs.declared.Entry.{Entry}
use Rattle.model.specs.declared.Guest.{Guest}
use Rattle.model.specs.declared.Permit.{Permit}
use Rattle.model.specs.declared.Right.{Right}
use Rattle.model.specs.declared.Right.TheVariants.{Read}
use Rattle.model.specs.declared.Space.{Space}
use Rattle.model.specs.declared.Standing.{Standing}
use Rattle.model.specs.declared.Standing.TheVariants.{Unused, Valid, Revoked}
use Rattle.model.specs.declared.State.{State}
use Rattle.model.specs.Changes.{allows}
use Rattle.model.specs.Frames.{Layout, layout, frame_free}
use Rattle.model.specs.Fresh.{frames_in_range}
use Rattle.model.specs.Names.{good_name}
use Rattle.model.specs.Searches.{enrolled, is_unused, primaries, data_spaces}
use Rattle.model.specs.Sizes.{max_frames, spent_identification, max_allowance, max_list, guest_count, slot_count, register_count, max_key}
use Rattle.model.specs.Tables.{space_at, live, guest_at, cpu_at, grant_at, entry_at, cell_at}

-- "F in range; next identification 1 to 65,536."
unfoldable pub head_test : (frames next : ℕ) → Bool
head_test f n = both (frames_in_range f) (both (leb 1 n) (leb n spent_identification))

-- "Each live space has an enrolled owner, at least one page, frames inside F .., an identification from 1 and below the
-- next .., and a name of the form under Sizes"
unfoldable pub live_test : (frames next : ℕ) → List Guest → Space → Bool
live_test f n gs x =
    both (enrolled gs x.owner)
    (both (leb 1 x.pages)
    (both (leb (x.first + x.pages) f)
    (both (ltb x.id n) (good_name x.name))))

-- "Slots of spaces that aren't live .. hold zeros"
unfoldable pub dead_test : Space → Bool
dead_test x = both (eqb x.owner 0) (both (eqb x.name 0) (both (eqb x.first 0) (eqb x.pages 0)))

unfoldable pub slot_test : (frames next : ℕ) → List Guest → Space → Bool
slot_test f n gs x = choose (live x) (live_test f n gs x) (dead_test x)

-- two live spaces: "frames .. that no other live space has", an identification that is "no other's", "a name .. that no other
-- space of its owner has"
unfoldable pub frames_apart : Space → Space → Bool
frames_apart x y = either (leb (x.first + x.pages) y.first) (leb (y.first + y.pages) x.first)

unfoldable pub same_name : Space → Space → Bool
same_name x y = both (eqb x.owner y.owner) (eqb x.name y.name)

unfoldable pub pair_test : Space → Space → Bool
pair_test x y =
    implies (both (live x) (live y)) (both (frames_apart x y) (both (not (eqb x.id y.id)) (not (same_name x y))))

unfoldable pub apart_test : List Space → Bool
apart_test ss = every (λ u. every (λ v. either (eqb u v) (pair_test (space_at ss u) (space_at ss v))) slot_count) slot_count

unfoldable pub spaces_test : (frames next : ℕ) → List Guest → List Space → Bool
spaces_test f n gs ss =
    both (eqb (length ss) slot_count)
    (both (every (λ u. slot_test f n gs (space_at ss u)) slot_count) (apart_test ss))

-- "Each enrolled guest has exactly one primary, named BASE, at most its allowance of data spaces, settings in range, and
-- access-register mode only with ASF." Paper 02, M-100: "all keys are 0 to 15"
unfoldable pub enrolled_test : Guest → Cpu → (primaries data_spaces : ℕ) → Bool
enrolled_test x c p d =
    both (eqb p 1)
    (both (leb d x.allowance)
    (both (leb x.allowance max_allowance)
    (both (leb 1 x.list)
    (both (leb x.list max_list)
    (both (leb c.key max_key) (implies c.mode x.asf))))))

-- "everything of guests not enrolled, hold zeros, .. primary mode"
unfoldable pub absent_test : Guest → Cpu → Bool
absent_test x c =
    both (eqb x.allowance 0)
    (both (not x.share)
    (both (eqb x.list 0)
    (both (not x.asf)
    (both (not c.mode)
    (both (eqb c.key 0) (every (λ r. eqb (get_or c.registers r 0) 0) register_count))))))

-- the guest at place k
unfoldable pub guest_test : List Space → List Guest → List Cpu → (place : ℕ) → Bool
guest_test ss gs cs k =
    choose (guest_at gs (k + 1)).enrolled
    (enrolled_test (guest_at gs (k + 1)) (cpu_at cs k) (primaries ss (k + 1)) (data_spaces ss (k + 1)))
    (absent_test (guest_at gs (k + 1)) (cpu_at cs k))

unfoldable pub guests_test : List Space → List Guest → List Cpu → Bool
guests_test ss gs cs =
    both (eqb (length gs) guest_count)
    (both (eqb (length cs) guest_count)
    (both (every (λ k. eqb (length (cpu_at cs k).registers) register_count) guest_count) (every (guest_test ss gs cs) guest_count)))

-- "Permits exist only for live spaces of sharing owners, to other enrolled guests."
unfoldable pub permit_test : List Guest → List Space → List Permit → (slot guest : ℕ) → Bool
permit_test gs ss ps u h =
    implies (allows (grant_at ps u h) Read)
    (both (live (space_at ss u))
    (both (guest_at gs (space_at ss u).owner).share
    (both (enrolled gs h) (not (eqb h (space_at ss u).owner)))))

unfoldable pub permits_test : List Guest → List Space → List Permit → Bool
permits_test gs ss ps =
    both (eqb (length ps) 256) (every (λ u. every (λ k. permit_test gs ss ps u (k + 1)) guest_count) slot_count)

-- "A valid entry names a live space, owned by the guest or permitted to it with at least that right."
unfoldable pub ground_test : List Space → List Permit → (guest slot : ℕ) → Right → Bool
ground_test ss ps g u r =
    both (ltb u slot_count)
    (both (live (space_at ss u)) (either (eqb (space_at ss u).owner g) (allows (grant_at ps u g) r)))

unfoldable pub standing_test : List Space → List Permit → (guest : ℕ) → Standing → Bool
standing_test ss ps g Unused = true
standing_test ss ps g (Valid u r) = ground_test ss ps g u r
standing_test ss ps g Revoked = true

-- "Entries above L+1 are unused with sequence 0."
unfoldable pub untouched_test : Entry → Bool
untouched_test e = both (is_unused e.standing) (eqb e.sequence 0)

-- entry n of guest g
unfoldable pub entry_test : List Guest → List Space → List Permit → List Entry → (guest number : ℕ) → Bool
entry_test gs ss ps es g n =
    both (ltb (entry_at es g n).sequence 256)
    (both (standing_test ss ps g (entry_at es g n).standing) (implies (ltb ((guest_at gs g).list + 1) n) (untouched_test (entry_at es g n))))

unfoldable pub entries_test : List Guest → List Space → List Permit → List Entry → Bool
entries_test gs ss ps es =
    both (eqb (length es) 240) (every (λ k. every (λ i. entry_test gs ss ps es (k + 1) (i + 2)) 30) guest_count)

-- Paper 02, M-100: "free frames of a sound state, have key 0, mark off; all keys are 0 to 15"
unfoldable pub blank_test : Cell → Bool
blank_test c = both (eqb c.key 0) (not c.mark)

unfoldable pub cell_test : Layout → List Space → List Cell → (frame : ℕ) → Bool
cell_test l ss cs f = both (leb (cell_at cs f).key max_key) (implies (frame_free l ss f) (blank_test (cell_at cs f)))

unfoldable pub cells_test : Layout → List Space → List Cell → Bool
cells_test l ss cs = both (eqb (length cs) max_frames) (every (cell_test l ss cs) max_frames)

unfoldable pub sound : State → Bool
sound s =
    both (head_test s.frames s.next)
    (both (spaces_test s.frames s.next s.guests s.spaces)
    (both (guests_test s.spaces s.guests s.cpus)
    (both (permits_test s.guests s.spaces s.permits)
    (both (entries_test s.guests s.spaces s.permits s.entries) (cells_test (layout s) s.spaces s.cells)))))
