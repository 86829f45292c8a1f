-- Demand 3 on concrete things. For the first half a sound state with a shared space, two scratch areas that differ in that
-- space, and a list of calls in two versions, with all that each run returns (proofs/Instance). For the second half the paper's
-- session, whose record stands in isolation `Records` (proofs/InstanceRecord).
use Rattle.std.specs.Prelude.{ℕ, Bool, true, false, List, [], ◌∷◌, ◌++◌, set, replicate}
use Rattle.model.specs.declared.Cpu.{Cpu}
use Rattle.model.specs.declared.Grant.TheVariants.{Reading}
use Rattle.model.specs.declared.Guest.{Guest}
use Rattle.model.specs.declared.Operation.TheVariants.{Enrol, Create, Destroy, Permit, Isolate, Query, Add, Remove, Load, Mode, Fetch, Store}
use Rattle.model.specs.declared.Right.TheVariants.{Read, Write}
use Rattle.model.specs.declared.Space.{Space}
use Rattle.model.specs.declared.Standing.TheVariants.{Valid}
use Rattle.model.specs.declared.State.{State}
use Rattle.model.specs.Answers.{number, value}
use Rattle.model.specs.Arguments.{settings_of}
use Rattle.model.specs.Fresh.{empty_tables}
use Rattle.model.specs.Names.{base_name}
use Rattle.model.specs.Step.{Machine, Issue, Outcome}
use Rattle.model.specs.Tables.{no_space, space_at, permit_place, entry_place, with_spaces, with_guests, with_cpus, with_permits, with_entries}
use Rattle.isolation.specs.Records.{temp, issue}

-- First half.
-- The tables, over four frames. Both guests are enrolled and in access-register mode with token 2 in register 1; guest 1 shares.
abbrev pub settings : (share : Bool) → Guest
settings b = record { enrolled = true; allowance = 2; share = b; list = 4; asf = true }

abbrev pub token_two : Cpu
token_two = record { registers = set (replicate 16 0) 1 2; mode = true; key = 0 }

abbrev pub space : (id owner name frame : ℕ) → Space
space i g n f = record { id = i; owner = g; name = n; first = f; pages = 1 }

-- guest 1's data space 3 in frame 2, and the space 4 that guest 2 will make there
abbrev pub shared : Space
shared = space 3 1 temp 2

abbrev pub own : Space
own = space 4 2 temp 2

-- the primaries 1 and 2 have the frames 0 and 1; guest 2 is permitted to read space 3; entry 2 of guest 1 is valid for it with
-- write, entry 2 of guest 2 with read
unfoldable pub start : State
start =
    let e = empty_tables 4 4 in
    with_entries
    (with_permits
    (with_cpus
    (with_guests
    (with_spaces e (set (set (set e.spaces 0 (space 1 1 base_name 0)) 1 (space 2 2 base_name 1)) 2 shared))
    (set (set e.guests 0 (settings true)) 1 (settings false)))
    (set (set e.cpus 0 token_two) 1 token_two))
    (set e.permits (permit_place 2 2) (record { grant = Reading })))
    (set (set e.entries (entry_place 1 2) (record { standing = Valid 2 Write; sequence = 0 })) (entry_place 2 2) (record { standing = Valid 2 Read; sequence = 0 }))

abbrev pub holding : (scratch : List ℕ) → Machine
holding z = record { tables = start; scratch = z }

-- The scratch areas: zeros, and zeros but for the byte at address 1 of space 3.
unfoldable pub zeros : List ℕ
zeros = replicate 16384 0

unfoldable pub altered : List ℕ
altered = set zeros 8193 7

-- The calls.
-- guest 2 fetches two bytes through register 1
abbrev pub look : Issue
look = issue 2 (Fetch 1 0) (9 ∷ 9 ∷ [])

-- guest 1 stores through register 1
abbrev pub change : (bytes : List ℕ) → Issue
change b = issue 1 (Store 1 0) b

-- guest 2 fetches what was stored; guest 1 isolates space 3, and guest 2's fetch is refused; guest 1 destroys it, and guest 2
-- gets its frame in a space of its own, and fetches from there
abbrev pub others : List Issue
others =
    look
    ∷ issue 1 (Isolate 3) []
    ∷ look
    ∷ issue 1 (Destroy 3) []
    ∷ issue 2 (Remove 2) []
    ∷ issue 2 (Create temp 1) []
    ∷ issue 2 (Add 4 Read) []
    ∷ issue 2 (Load 1 65538) []
    ∷ look
    ∷ []

-- both versions: the bytes stored are all that differs
abbrev pub calls : (stored : List ℕ) → List Issue
calls b = look ∷ change b ∷ others

abbrev pub first : List Issue
first = calls (1 ∷ 2 ∷ [])

abbrev pub second : List Issue
second = calls (3 ∷ 4 ∷ [])

-- guest 1 stores, and guest 2 asks about owner 0
abbrev pub question : List Issue
question = issue 2 (Query 0 temp) [] ∷ []

abbrev pub asking : (stored : List ℕ) → List Issue
asking b = change b ∷ question

-- What a call returns: its answer, its value, its buffer after it, and what then stands in the slot of space 3.
pub record Result : Type 0 where
  pub answer : ℕ
  pub value : ℕ
  pub buffer : List ℕ
  pub slot : Space

abbrev pub result : (answer value : ℕ) → (buffer : List ℕ) → (slot : Space) → Result
result a v b x = record { answer = a; value = v; buffer = b; slot = x }

unfoldable pub results : List Outcome → List Result
results [] = []
results (o ∷ os) = result (number o.answer) (value o.answer) o.buffer (space_at o.machine.tables.spaces 2) ∷ results os

-- the whole list, by the bytes that are stored and those that the three done fetches read
abbrev pub listed : (read₁ stored read₂ read₃ : List ℕ) → List Result
listed x b y z =
    result 0 0 x shared
    ∷ result 0 0 b shared
    ∷ result 0 0 y shared
    ∷ result 0 0 [] shared
    ∷ result 16 0 (9 ∷ 9 ∷ []) shared
    ∷ result 0 0 [] no_space
    ∷ result 0 0 [] no_space
    ∷ result 0 4 [] own
    ∷ result 0 65538 [] own
    ∷ result 0 0 [] own
    ∷ result 0 0 z own
    ∷ []

-- Second half.
-- Lines 2 to 9 as calls from a fresh state of eight frames, and line 16 after them.
unfoldable pub blank : List ℕ
blank = replicate 32768 0

abbrev pub fresh : Machine
fresh = record { tables = empty_tables 8 1; scratch = blank }

abbrev pub lines : List Issue
lines =
    issue 1 (Enrol (settings_of 2 2 1 4 1)) []
    ∷ issue 2 (Enrol (settings_of 1 1 0 2 1)) []
    ∷ issue 1 (Create temp 1) []
    ∷ issue 1 (Permit 3 2 Read) []
    ∷ issue 2 (Add 3 Read) []
    ∷ issue 2 (Add 3 Write) []
    ∷ issue 2 (Mode 1) []
    ∷ issue 2 (Load 5 2) []
    ∷ []

abbrev pub isolating : List Issue
isolating = lines ++ (issue 1 (Isolate 3) [] ∷ [])
