-- Paper 01, "Both sides of each edge": the cases marked P, and the case of the free frames; and cases of paper 02, M-100, "Storage
-- keys on each block", and M-102, "Tell us which field was wrong". All are one table. A case is a start state and calls with what
-- each must answer; each goes through the whole decision, check 1 included.
use Rattle.std.specs.Prelude.{ℕ, ◌*◌, Bool, true, List, [], ◌∷◌, set, eqb}
use Rattle.lists.specs.Choice.{both}
use Rattle.model.specs.declared.Call.{Call}
use Rattle.model.specs.declared.Operation.{Operation}
use Rattle.model.specs.declared.Operation.TheVariants.{Enrol, Create, Destroy, Permit, Query, Add, Remove, Load, Mode, Fetch, Store, Reset, Key, Block}
use Rattle.model.specs.declared.Right.TheVariants.{Read, Write}
use Rattle.model.specs.declared.Standing.TheVariants.{Valid}
use Rattle.model.specs.declared.State.{State}
use Rattle.model.specs.Answers.{number, value}
use Rattle.model.specs.Arguments.{settings_of}
use Rattle.model.specs.Calls.{decide}
use Rattle.model.specs.Decision.{after}
use Rattle.model.specs.Fresh.{empty_tables}
use Rattle.model.specs.Names.{base_name}
use Rattle.model.specs.Tables.{with_spaces, with_guests, with_entries}

-- guest 1 makes a call with a buffer of `room` bytes, and it must answer so
pub record Trial : Type 0 where
  pub operation : Operation
  pub room : ℕ
  pub answer : ℕ
  pub value : ℕ

abbrev pub trial : Operation → (room answer value : ℕ) → Trial
trial o n a v = record { operation = o; room = n; answer = a; value = v }

abbrev pub by_first : Operation → Call
by_first o = record { caller = record { guest = 1 }; operation = o }

-- every call of the list answers as it must
unfoldable pub passes : State → List Trial → Bool
passes s [] = true
passes s (t ∷ ts) =
    let d = decide s (s.frames * 4096) (by_first t.operation) t.room in
    both (both (eqb (number d.answer) t.answer) (eqb (value d.answer) t.value)) (passes (after s d) ts)

-- a done call that has no value and lends no buffer
abbrev pub done : Operation → Trial
done o = trial o 0 0 0

-- guest 1 enrols with so many pages and a list of L entries
abbrev pub holding : (pages list : ℕ) → Trial
holding p l = trial (Enrol (settings_of p 2 1 l 1)) 0 0 1

-- with one page it adds its own space with read, and loads the token t into register 1
abbrev pub with_token : (list token : ℕ) → List Trial → List Trial
with_token l t more = holding 1 l ∷ trial (Add 1 Read) 0 0 2 ∷ done (Mode 1) ∷ done (Load 1 t) ∷ more

-- "name" is the number of the eight bytes of A and seven blanks
abbrev pub name_a : ℕ
name_a = 4692786134070075424

-- guest 1 alone, whose primary space has so many pages from that frame on
abbrev primary_at : (F first pages : ℕ) → State
primary_at F f n =
    with_spaces
    (with_guests (empty_tables F 2) (set (empty_tables F 2).guests 0 (record { enrolled = true; allowance = 2; share = true; list = 4; asf = true })))
    (set (empty_tables F 2).spaces 0 (record { id = 1; owner = 1; name = base_name; first = f; pages = n }))

-- P11's start: guest 1 with entry 2 valid for its own space and sequence 255
unfoldable pub worn_tables : State
worn_tables = with_entries (primary_at 8 0 1) (set (empty_tables 8 2).entries 0 (record { standing = Valid 0 Write; sequence = 255 }))

-- "Free frames 0 and 2 of 3": guest 1's primary space has frame 1
unfoldable pub gap_tables : State
gap_tables = primary_at 3 1 1

-- Paper 02, M-103: its primary space has frames 0 and 1
unfoldable pub pair_tables : State
pair_tables = primary_at 8 0 2

pub record Case : Type 0 where
  pub start : State
  pub trials : List Trial

abbrev pub case : State → List Trial → Case
case s ts = record { start = s; trials = ts }

unfoldable pub cases : List Case
cases =
    -- Paper 01.
    -- P1 token 2, first ADD in a list: accepted
    case (empty_tables 8 1) (with_token 4 2 (trial (Fetch 1 0) 1 0 0 ∷ []))
    -- P2 token 1: 14
    ∷ case (empty_tables 8 1) (with_token 4 1 (trial (Fetch 1 0) 1 14 0 ∷ []))
    -- P3 token 31 with L = 30: well formed
    ∷ case (empty_tables 8 1) (with_token 30 31 (trial (Fetch 1 0) 1 15 0 ∷ []))
    -- P4 token 32: 14
    ∷ case (empty_tables 8 1) (with_token 30 32 (trial (Fetch 1 0) 1 14 0 ∷ []))
    -- P5 token 16,777,218: 14
    ∷ case (empty_tables 8 1) (with_token 4 16777218 (trial (Fetch 1 0) 1 14 0 ∷ []))
    -- P6 L = 4, token 5 unused: 15
    ∷ case (empty_tables 8 1) (with_token 4 5 (trial (Fetch 1 0) 1 15 0 ∷ []))
    -- P7 L = 4, token 6: 15
    ∷ case (empty_tables 8 1) (with_token 4 6 (trial (Fetch 1 0) 1 15 0 ∷ []))
    -- P8 one-page space, address 4,095, length 1: done; P9 length 2: 17; P10 address 4,294,967,295, length 1: 17
    ∷ case (empty_tables 8 1) (with_token 4 2 (trial (Fetch 1 4095) 1 0 0 ∷ trial (Fetch 1 4095) 2 17 0 ∷ trial (Fetch 1 4294967295) 1 17 0 ∷ []))
    -- P11 sequence 255 removed: next token of entry 2 is 2
    ∷ case worn_tables (trial (Remove 16711682) 0 0 0 ∷ trial (Add 1 Write) 0 0 2 ∷ [])
    -- P12 store out of range through a read entry: 17, not 18
    ∷ case (empty_tables 8 1) (with_token 4 2 (trial (Store 1 4096) 1 17 0 ∷ trial (Store 1 4095) 1 18 0 ∷ []))
    -- "Free frames 0 and 2 of 3: two pages refused with 10, one page placed at 0"
    ∷ case gap_tables (trial (Create name_a 2) 0 10 0 ∷ trial (Create name_a 1) 0 0 2 ∷ [])
    -- Paper 02, M-100. Register 0 gives the primary space, with write; a new space has key 0, mark off.
    -- "a store is allowed if the access key is 0 or equals the block's; a fetch also if the mark is off": key 5 against 0, then 5
    ∷ case (empty_tables 8 1) (holding 1 4 ∷ done (Key 5) ∷ trial (Store 0 0) 1 22 0 ∷ trial (Fetch 0 0) 1 0 0 ∷ done (Block 1 0 5 0) ∷ trial (Store 0 0) 1 0 0 ∷ [])
    -- mark on, block key 3: a fetch with key 0, 5 and 3
    ∷ case (empty_tables 8 1) (holding 1 4 ∷ done (Block 1 0 3 1) ∷ trial (Fetch 0 0) 1 0 0 ∷ done (Key 5) ∷ trial (Fetch 0 0) 1 22 0 ∷ done (Key 3) ∷ trial (Fetch 0 0) 1 0 0 ∷ [])
    -- "22, key protection, in FETCH and STORE after 18": out of range 17, through a read entry 18, else 22
    ∷ case (empty_tables 8 1) (with_token 4 2 (done (Key 5) ∷ trial (Store 0 4096) 1 17 0 ∷ trial (Store 1 4095) 1 18 0 ∷ trial (Store 0 4095) 1 22 0 ∷ []))
    -- "An access across several blocks needs all of them to allow it": of two the first alone does, then both do
    ∷ case (empty_tables 8 1)
    (holding 2 4 ∷ done (Block 1 0 5 0) ∷ done (Key 5) ∷ trial (Store 0 4095) 1 0 0 ∷ trial (Store 0 4095) 2 22 0 ∷ done (Block 1 4096 5 0) ∷ trial (Store 0 4095) 2 0 0 ∷ [])
    -- "all keys are 0 to 15"; "BLOCK then 5, 6, 17": no space 2, an address past the end, the last address
    ∷ case (empty_tables 8 1)
    (holding 1 4 ∷ trial (Key 16) 0 40 2 ∷ trial (Block 1 0 16 0) 0 40 4 ∷ trial (Block 2 4096 15 1) 0 5 0 ∷ trial (Block 1 4096 15 1) 0 17 0 ∷ done (Block 1 4095 15 1) ∷ done (Key 15) ∷ [])
    -- "kept by RESET": the access key still refuses
    ∷ case (empty_tables 8 1) (holding 1 4 ∷ done (Key 5) ∷ done Reset ∷ trial (Store 0 0) 1 22 0 ∷ [])
    -- "New spaces .. have key 0, mark off", in frames that had a mark too
    ∷ case (empty_tables 8 1)
    (with_token 4 3
    (trial (Create name_a 1) 0 0 2 ∷ done (Block 2 0 3 1) ∷ done (Destroy 2) ∷ trial (Create name_a 1) 0 0 3 ∷ trial (Add 3 Read) 0 0 3 ∷ done (Key 5) ∷ trial (Fetch 1 0) 1 0 0 ∷ []))
    -- Paper 02, M-102: "where several are wrong, the leftmost". ENROL with all wrong, then mended from the left, one by one
    ∷ case (empty_tables 8 1)
    (trial (Enrol (settings_of 513 32 2 31 2)) 0 31 2
    ∷ trial (Enrol (settings_of 1 32 2 31 2)) 0 32 3
    ∷ trial (Enrol (settings_of 1 31 2 31 2)) 0 34 4
    ∷ trial (Enrol (settings_of 1 31 1 31 2)) 0 33 5
    ∷ trial (Enrol (settings_of 1 31 1 30 2)) 0 34 6
    ∷ trial (Enrol (settings_of 1 31 1 30 1)) 0 0 1
    ∷ [])
    -- "the length counts as last"
    ∷ case (empty_tables 8 1) (holding 1 4 ∷ trial (Fetch 16 0) 257 36 2 ∷ trial (Store 16 0) 0 36 2 ∷ trial (Fetch 15 0) 257 37 4 ∷ trial (Fetch 15 0) 258 37 4 ∷ trial (Store 15 0) 0 37 4 ∷ trial (Store 15 0) 257 37 4 ∷ trial (Store 15 0) 256 0 0 ∷ [])
    -- the other calls, with all wrong that can be, and where two have limits then with the left one mended: 0 is no name, 9 no space
    ∷ case (empty_tables 8 1)
    (holding 1 4
    ∷ trial (Create 0 513) 0 35 2
    ∷ trial (Create name_a 513) 0 31 3
    ∷ trial (Permit 9 1 Read) 0 38 3
    ∷ trial (Query 9 0) 0 38 2
    ∷ trial (Query 8 0) 0 35 3
    ∷ trial (Load 16 0) 0 36 2
    ∷ trial (Mode 2) 0 34 2
    ∷ trial (Key 16) 0 40 2
    ∷ trial (Block 9 4096 16 2) 0 40 4
    ∷ trial (Block 9 4096 15 2) 0 34 5
    ∷ [])
    ∷ []

unfoldable pub all_pass : List Case → Bool
all_pass [] = true
all_pass (c ∷ cs) = both (passes c.start c.trials) (all_pass cs)
