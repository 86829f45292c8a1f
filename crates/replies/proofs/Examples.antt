-- Lines of paper 01's session, printed as the paper shows them; and two refusals of M-102. Assumes nothing.
use Prim.Native.Nat.{ℕ}
use mathlib.Core.List.{List, [], ◌∷◌}
use mathlib.Core.Path.{◌≡◌, refl}
use Rattle.lists.specs.Choice.{choose, both}
use Rattle.lists.specs.Text.{bytes}
use Rattle.model.specs.declared.Answer.{Answer}
use Rattle.model.specs.declared.Answer.TheVariants.{Done, Limit, NotPermitted}
use Rattle.model.specs.declared.Kind.TheVariants.{Register, Frames as FrameCount}
use Rattle.model.specs.declared.Operation.{Operation}
use Rattle.model.specs.declared.Operation.TheVariants.{Add, Fetch, Store}
use Rattle.model.specs.declared.Request.{Request}
use Rattle.model.specs.declared.Request.TheVariants.{Frames, Call}
use Rattle.model.specs.declared.Right.TheVariants.{Read, Write}
use Rattle.model.specs.Answers.{limit_number, number, value, names_argument}
use Rattle.model.specs.Session.{decimal_by, hex_letter, hex_text, done_text, request_text, refusal_text, value_text, line_text}

abbrev line : ℕ → Request → Answer → List ℕ → List ℕ
line n r a m = line_text n (record { request = r; answer = a; moved = m })

abbrev call : (guest : ℕ) → Operation → ℕ → Request
call g o l = Call (record { caller = record { guest = g }; operation = o }) l

pub line_1 : line 1 (Frames 8) (Done 0) [] ≡ bytes "1 0 -\n"
unfolding line_text decimal_by choose value_text request_text number
line_1 = refl

pub line_7 : line 7 (call 2 (Add 3 Write) 0) NotPermitted [] ≡ bytes "7 12 -\n"
unfolding line_text decimal_by choose value_text refusal_text names_argument both number
line_7 = refl

pub line_14 : line 14 (call 2 (Fetch 5 4095) 1) (Done 0) (205 ∷ []) ≡ bytes "14 0 CD\n"
unfolding line_text decimal_by choose value_text request_text done_text hex_text hex_letter number
line_14 = refl

pub line_21 : line 21 (call 2 (Add 4 Read) 0) (Done 65538) [] ≡ bytes "21 0 65538\n"
unfolding line_text decimal_by choose value_text request_text done_text number value
line_21 = refl

-- register and length both wrong
pub register_wrong : line 2 (call 1 (Store 16 0) 0) (Limit Register 2) [] ≡ bytes "2 36 2\n"
unfolding line_text decimal_by choose value_text refusal_text names_argument both number limit_number value
register_wrong = refl

pub frames_wrong : line 1 (Frames 9) (Limit FrameCount 1) [] ≡ bytes "1 39 1\n"
unfolding line_text decimal_by choose value_text refusal_text names_argument both number limit_number value
frames_wrong = refl
