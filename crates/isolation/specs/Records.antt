-- Records of calls, for demand 3's second half: some give a ground for the next fetch or store, some don't (proofs/Records).
use Rattle.std.specs.Prelude.{ℕ, List, [], ◌∷◌}
use Rattle.model.specs.declared.Operation.{Operation}
use Rattle.model.specs.declared.Operation.TheVariants.{Enrol, Create, Permit, Add, Load, Mode, Fetch, Store}
use Rattle.model.specs.declared.Right.{Right}
use Rattle.model.specs.declared.Right.TheVariants.{Read, Write}
use Rattle.model.specs.Arguments.{settings_of}
use Rattle.model.specs.Step.{Issue}
use Rattle.isolation.specs.History.{Event}

-- the bytes of TEMP and four blanks
abbrev pub temp : ℕ
temp = 0x54454D5020202020

-- a call with the buffer lent to it
abbrev pub issue : (guest : ℕ) → Operation → (buffer : List ℕ) → Issue
issue g o b = record { call = record { caller = record { guest = g }; operation = o }; buffer = b }

-- The records, latest first.
abbrev pub event : (guest : ℕ) → Operation → (number value : ℕ) → Event
event g o n v = record { call = record { caller = record { guest = g }; operation = o }; number = n; value = v }

abbrev pub done : (guest : ℕ) → Operation → (value : ℕ) → Event
done g o v = event g o 0 v

-- ENROL 1, ENROL 2, CREATE 1 TEMP -> 3
abbrev pub founding : List Event
founding = done 1 (Create temp 1) 3 ∷ done 2 (Enrol (settings_of 1 1 0 2 1)) 2 ∷ done 1 (Enrol (settings_of 2 2 1 4 1)) 1 ∷ []

-- PERMIT 1 3 2 r
abbrev pub permitting : Right → List Event
permitting r = done 1 (Permit 3 2 r) 0 ∷ founding

-- the paper's session, lines 2 to 9: PERMIT 1 3 2 R, ADD 2 3 R -> 2, ADD 2 3 W refused, MODE 2 1, LOAD 2 5 2
abbrev pub session : List Event
session = done 2 (Load 5 2) 0 ∷ done 2 (Mode 1) 0 ∷ event 2 (Add 3 Write) 12 0 ∷ done 2 (Add 3 Read) 2 ∷ permitting Read

-- PERMIT 1 3 2 W, ADD 2 3 W -> 2, MODE 2 1, LOAD 2 5 2
abbrev pub writing : List Event
writing = done 2 (Load 5 2) 0 ∷ done 2 (Mode 1) 0 ∷ done 2 (Add 3 Write) 2 ∷ permitting Write

-- with no PERMIT, ADD 1 3 W -> 2, MODE 1 1, LOAD 1 5 2
abbrev pub owning : List Event
owning = done 1 (Load 5 2) 0 ∷ done 1 (Mode 1) 0 ∷ done 1 (Add 3 Write) 2 ∷ founding

-- PERMIT 1 3 2 R only after ADD 2 3 R -> 2, and MODE 2 1, LOAD 2 5 2
abbrev pub late : List Event
late = done 2 (Load 5 2) 0 ∷ done 2 (Mode 1) 0 ∷ done 1 (Permit 3 2 Read) 0 ∷ done 2 (Add 3 Read) 2 ∷ founding

-- PERMIT 4 3 2 R, by a guest that does not own space 3, and the rest of the session
abbrev pub unowned : List Event
unowned = done 2 (Load 5 2) 0 ∷ done 2 (Mode 1) 0 ∷ done 2 (Add 3 Read) 2 ∷ done 4 (Permit 3 2 Read) 0 ∷ founding

-- The next call.
abbrev pub fetch : (guest : ℕ) → Issue
fetch g = issue g (Fetch 5 0) (0 ∷ [])

abbrev pub store : (guest : ℕ) → Issue
store g = issue g (Store 5 0) (0 ∷ [])
