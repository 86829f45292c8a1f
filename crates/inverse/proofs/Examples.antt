-- Some requests written, taken and refused. Assumes nothing.
use Prim.Native.Nat.{ℕ}
use mathlib.Core.Bool.{true, false}
use mathlib.Core.List.{[], ◌∷◌}
use mathlib.Core.Path.{◌≡◌, refl}
use Rattle.lists.specs.Bytes.{over}
use Rattle.lists.specs.Choice.{choose, both, either}
use Rattle.lists.specs.Text.{bytes}
use Rattle.model.specs.declared.Answer.TheVariants.{Done, RoomTooSmall, NotWritten}
use Rattle.model.specs.declared.Operation.{Operation}
use Rattle.model.specs.declared.Operation.TheVariants.{Create, Store, Key}
use Rattle.model.specs.declared.Request.{Request}
use Rattle.model.specs.declared.Request.TheVariants.{Frames, Call, NotRead}
use Rattle.model.specs.Lines.{forms, packed_name, packed, no_blank}
use Rattle.model.specs.Names.{blanks, name_bytes}
use Rattle.model.specs.Parts.{call_parts, parts_of}
use Rattle.model.specs.Session.{decimal_by, hex_letter, hex_text}
use Rattle.model.specs.Written.{unpadded, field_text, field_texts, tabbed, written, one_field, takes_field, takes_fields, takes, fits, write_answer, buffer_after}

abbrev call : (guest : ℕ) → Operation → (length : ℕ) → Request
call g o n = Call (record { caller = record { guest = g }; operation = o }) n

pub frames : written (Frames 8) [] ≡ bytes "FRAMES\t8"
unfolding written parts_of forms field_texts field_text tabbed decimal_by choose
frames = refl

pub create : written (call 1 (Create (packed_name (bytes "TEMP")) 1) 0) [] ≡ bytes "CREATE\t1\tTEMP\t1"
unfolding written parts_of call_parts forms field_texts field_text tabbed decimal_by choose packed_name packed name_bytes unpadded blanks both
create = refl

-- of the bytes lent the first two
pub store : written (call 1 (Store 4 4094) 2) (171 ∷ 205 ∷ 239 ∷ []) ≡ bytes "STORE\t1\t4\t4094\tABCD"
unfolding written parts_of call_parts forms field_texts field_text tabbed decimal_by choose hex_text hex_letter
store = refl

-- without data the line ends in a tab
pub store_nothing : written (call 2 (Store 5 4094) 0) [] ≡ bytes "STORE\t2\t5\t4094\t"
unfolding written parts_of call_parts forms field_texts field_text tabbed decimal_by choose hex_text
store_nothing = refl

-- a length that the call doesn't use isn't written
pub key : written (call 2 (Key 5) 7) [] ≡ bytes "KEY\t2\t5"
unfolding written parts_of call_parts forms field_texts field_text tabbed decimal_by choose
key = refl

pub lower_case : takes (call 1 (Create (packed_name (bytes "temp")) 1) 0) [] ≡ true
unfolding takes parts_of call_parts forms takes_fields takes_field choose packed_name packed name_bytes unpadded blanks no_blank one_field both either
lower_case = refl

pub blank_inside : takes (call 1 (Create (packed_name (bytes "TE MP")) 1) 0) [] ≡ false
unfolding takes parts_of call_parts forms takes_fields takes_field choose packed_name packed name_bytes unpadded blanks no_blank one_field both either
blank_inside = refl

pub newline_inside : takes (call 1 (Create (packed_name (bytes "TE\nMP")) 1) 0) [] ≡ false
unfolding takes parts_of call_parts forms takes_fields takes_field choose packed_name packed name_bytes unpadded blanks no_blank one_field both either
newline_inside = refl

pub too_few_lent : takes (call 2 (Store 5 4094) 2) (171 ∷ []) ≡ false
unfolding takes parts_of call_parts forms takes_fields takes_field both
too_few_lent = refl

pub no_line : takes NotRead [] ≡ false
unfolding takes parts_of forms both
no_line = refl

-- room: exact; one byte more, which stays; one byte too few, of which none changes
pub exact : write_answer (Frames 8) [] (bytes "........") ≡ Done 8
unfolding write_answer fits takes takes_fields takes_field written parts_of forms field_texts field_text tabbed decimal_by choose both
exact = refl

pub past_stays : buffer_after (Frames 8) [] (bytes "..........") ≡ bytes "FRAMES\t8.."
unfolding buffer_after fits takes takes_fields takes_field written parts_of forms field_texts field_text tabbed decimal_by choose both over
past_stays = refl

pub short : write_answer (Frames 8) [] (bytes ".......") ≡ RoomTooSmall
unfolding write_answer fits takes takes_fields takes_field written parts_of forms field_texts field_text tabbed decimal_by choose both
short = refl

pub short_stays : buffer_after (Frames 8) [] (bytes ".......") ≡ bytes "......."
unfolding buffer_after fits takes takes_fields takes_field written parts_of forms field_texts field_text tabbed decimal_by choose both
short_stays = refl

-- 42 first
pub no_room_either : write_answer (call 2 (Store 5 4094) 2) (171 ∷ []) [] ≡ NotWritten
unfolding write_answer takes takes_fields takes_field parts_of call_parts forms choose both
no_room_either = refl

pub refused_stays : buffer_after NotRead [] (bytes "..........") ≡ bytes ".........."
unfolding buffer_after takes parts_of forms choose both
refused_stays = refl
