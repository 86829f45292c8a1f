-- Paper 01, "The session program", in two layers: from input bytes to line outcomes, and from outcomes to text.
use Rattle.std.specs.Prelude.{ℕ, zero, suc, min, ◌+◌, ◌*◌, ◌/◌, ◌%◌, Bool, true, false, List, [], ◌∷◌, ◌++◌, length, take, replicate, leb, ltb, eqb}
use Rattle.lists.specs.Bytes.{over}
use Rattle.lists.specs.Choice.{choose, both}
use Rattle.lists.specs.Text.{bytes}
use Rattle.model.specs.declared.Answer.{Answer}
use Rattle.model.specs.declared.Answer.TheVariants.{Done, Limit, LineNotRead}
use Rattle.model.specs.declared.Call.{Call}
use Rattle.model.specs.declared.Kind.TheVariants.{Frames as FrameCount}
use Rattle.model.specs.declared.Operation.{Operation}
use Rattle.model.specs.declared.Request.{Request}
use Rattle.model.specs.declared.Request.TheVariants as request
use Rattle.model.specs.declared.State.{State}
use Rattle.model.specs.Answers.{number, value, names_argument}
use Rattle.model.specs.Classes.{Moves, no_bytes, from_space, to_space, Shows, no_value, its_value, its_bytes, class_of}
use Rattle.model.specs.Fresh.{empty_tables}
use Rattle.model.specs.Lines.{read_line, data_of}
use Rattle.model.specs.Sizes.{frame_size}
use Rattle.model.specs.Step.{Machine, Issue, Outcome, step}

-- Where a session stands between two lines. `begun` tells whether a FRAMES has been done: before, there is no state. Scratch
-- is lent with room for 8 frames; the first F of them are the machine's.
pub record Session : Type 0 where
  pub begun : Bool
  pub tables : State
  pub scratch : List ℕ

abbrev pub scratch_room : Session → ℕ
scratch_room s = s.tables.frames * frame_size

abbrev pub machine_of : Session → Machine
machine_of s = record { tables = s.tables; scratch = take (scratch_room s) s.scratch }

abbrev pub with_machine : Session → Machine → Session
with_machine s m = record { begun = s.begun; tables = m.tables; scratch = over s.scratch 0 m.scratch }

-- What became of a line: what it asked for, the answer with its value, and the bytes moved.
pub record LineOutcome : Type 0 where
  pub request : Request
  pub answer : Answer
  pub moved : List ℕ

pub record Turn : Type 0 where
  pub outcome : LineOutcome
  pub after : Session

abbrev pub turn : Request → Answer → List ℕ → Session → Turn
turn r a b s = record { outcome = record { request = r; answer = a; moved = b }; after = s }

-- the buffer of a call: FETCH's length "above 257 .. is carried out as 257"; STORE's is its data
abbrev pub filled : Moves → (length : ℕ) → (bytes : List ℕ) → List ℕ
filled no_bytes n d = []
filled (from_space r a) n d = replicate (min n 257) 0
filled (to_space r a) n d = d

unfoldable pub buffer_for : Operation → (length : ℕ) → (bytes : List ℕ) → List ℕ
buffer_for k n d = filled (class_of k).moves n d

abbrev pub issue_of : Call → (length : ℕ) → (bytes : List ℕ) → Issue
issue_of k n d = record { call = k; buffer = buffer_for k.operation n d }

-- a call is a step of the model
abbrev pub call_turn : Session → Request → Outcome → Turn
call_turn s r o = turn r o.answer o.buffer (with_machine s o.machine)

-- "The first good line is FRAMES and F; here F above 8 gives .., there is then no state, and another FRAMES may come. A
-- call before a done FRAMES, a FRAMES after one, .. : 21". Paper 02, M-102: "39 for F"; "For F, the value is 1."
unfoldable pub frames_turn : Session → (frames : ℕ) → Turn
frames_turn s f =
    choose s.begun (turn (request.Frames f) LineNotRead [] s)
    (choose (both (leb 1 f) (leb f 8))
    (turn (request.Frames f) (Done 0) [] (record { begun = true; tables = empty_tables f 1; scratch = s.scratch }))
    (turn (request.Frames f) (Limit FrameCount 1) [] s))

unfoldable pub request_turn : Session → Request → (bytes : List ℕ) → Turn
request_turn s (request.Frames f) d = frames_turn s f
request_turn s (request.Call k n) d =
    choose s.begun
    (call_turn s (request.Call k n) (step (machine_of s) (issue_of k n d)))
    (turn (request.Call k n) LineNotRead [] s)
request_turn s request.NotRead d = turn request.NotRead LineNotRead [] s

abbrev pub line_turn : Session → (line : List ℕ) → Turn
line_turn s l = request_turn s (read_line l) (data_of l)

-- "A line ends at a newline byte or, if it has a byte, at the end of input." `held` is what stands before.
unfoldable pub lines_from : (held : List ℕ) → List ℕ → List (List ℕ)
lines_from held [] = choose (eqb (length held) 0) [] (held ∷ [])
lines_from held (b ∷ bs) = choose (eqb b 10) (held ∷ lines_from [] bs) (lines_from (held ++ (b ∷ [])) bs)

unfoldable pub outcomes : Session → List (List ℕ) → List LineOutcome
outcomes s [] = []
outcomes s (l ∷ ls) = (line_turn s l).outcome ∷ outcomes (line_turn s l).after ls

-- before the first line; scratch first holds anything
abbrev pub new_session : (scratch : List ℕ) → Session
new_session m = record { begun = false; tables = empty_tables 0 0; scratch = m }

unfoldable pub session_outcomes : (scratch input : List ℕ) → List LineOutcome
session_outcomes m input = outcomes (new_session m) (lines_from [] input)

-- Text.
-- a number in decimal; 20 digits are enough for 64 bits
unfoldable pub decimal_by : (places : ℕ) → ℕ → List ℕ
decimal_by zero n = []
decimal_by (suc k) n = choose (ltb n 10) ((48 + n) ∷ []) (decimal_by k (n / 10) ++ ((48 + n % 10) ∷ []))

abbrev pub decimal : ℕ → List ℕ
decimal n = decimal_by 20 n

unfoldable pub hex_letter : ℕ → ℕ
hex_letter n = choose (ltb n 10) (48 + n) (55 + n)

-- "fetched bytes in hex"
unfoldable pub hex_text : List ℕ → List ℕ
hex_text [] = []
hex_text (b ∷ bs) = hex_letter (b / 16) ∷ hex_letter (b % 16) ∷ hex_text bs

abbrev pub dash : List ℕ
dash = 45 ∷ []

-- "The value is an identification, a token, fetched bytes in hex, or "-" where there is none"
abbrev pub shown : Shows → Answer → (moved : List ℕ) → List ℕ
shown no_value a b = dash
shown its_value a b = decimal (value a)
shown its_bytes a b = hex_text b

unfoldable pub done_text : Operation → Answer → (moved : List ℕ) → List ℕ
done_text k a b = shown (class_of k).shows a b

unfoldable pub request_text : Request → Answer → (moved : List ℕ) → List ℕ
request_text (request.Frames f) a b = dash
request_text (request.Call k n) a b = done_text k.operation a b
request_text request.NotRead a b = dash

-- "or the call was refused"; but the place of an argument that was outside its limits: paper 02, M-102, "The session prints it."
unfoldable pub refusal_text : Answer → List ℕ
refusal_text a = choose (names_argument (number a)) (decimal (value a)) dash

unfoldable pub value_text : LineOutcome → List ℕ
value_text o = choose (eqb (number o.answer) 0) (request_text o.request o.answer o.moved) (refusal_text o.answer)

-- "It prints a header, then per line, parted by one space: line number, answer, value." Lines are counted in 64 bits.
unfoldable pub line_text : (line : ℕ) → LineOutcome → List ℕ
line_text n o = decimal n ++ (32 ∷ decimal (number o.answer) ++ (32 ∷ value_text o ++ (10 ∷ [])))

abbrev pub next_line : ℕ → ℕ
next_line n = (n + 1) % 18446744073709551616

unfoldable pub text_from : (line : ℕ) → List LineOutcome → List ℕ
text_from n [] = []
text_from n (o ∷ os) = line_text n o ++ text_from (next_line n) os

abbrev pub header : List ℕ
header = bytes "line answer value\n"

-- The whole session: all bytes of the input to all bytes of the output.
unfoldable pub session_text : (scratch input : List ℕ) → List ℕ
session_text m input = header ++ text_from 1 (session_outcomes m input)
