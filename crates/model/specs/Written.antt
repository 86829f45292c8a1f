-- Paper 02, M-104, "Write sessions, too": "a writer that takes a request as a value and writes its one line, newline left out, into
-- a lent buffer; the value is its length, and bytes past it stay." Names and kinds are those of `forms`, as for the reader.
use Rattle.std.specs.Prelude.{ℕ, Bool, true, false, not, List, [], ◌∷◌, ◌++◌, leb, ltb, eqb, length, take}
use Rattle.lists.specs.Bytes.{over}
use Rattle.lists.specs.Choice.{choose, both, either}
use Rattle.lists.specs.Text.{byte, bytes}
use Rattle.model.specs.declared.Answer.{Answer}
use Rattle.model.specs.declared.Answer.TheVariants.{Done, RoomTooSmall, NotWritten}
use Rattle.model.specs.declared.Request.{Request}
use Rattle.model.specs.Lines.{FieldKind, number, name, right, hex, calls, no_blank}
use Rattle.model.specs.Names.{blanks, name_bytes}
use Rattle.model.specs.Parts.{parts_of, form_of}
use Rattle.model.specs.Session.{decimal, hex_text}

-- A name's text: its eight bytes without the blanks on the right.
unfoldable pub unpadded : List ℕ → List ℕ
unpadded [] = []
unpadded (b ∷ bs) = choose (blanks (b ∷ bs)) [] (b ∷ unpadded bs)

abbrev pub name_text : (name : ℕ) → List ℕ
name_text n = unpadded (name_bytes n)

unfoldable pub right_text : ℕ → List ℕ
right_text n = choose (eqb n 0) (bytes "R") (bytes "W")

-- Each field's text, by its kind. Data are the first bytes lent, as many as the request says.
unfoldable pub field_text : FieldKind → (value : ℕ) → (lent : List ℕ) → List ℕ
field_text number v d = decimal v
field_text name v d = name_text v
field_text right v d = right_text v
field_text hex v d = hex_text (take v d)

unfoldable pub field_texts : List FieldKind → (values lent : List ℕ) → List (List ℕ)
field_texts [] vs d = []
field_texts (k ∷ ks) [] d = []
field_texts (k ∷ ks) (v ∷ vs) d = field_text k v d ∷ field_texts ks vs d

-- "call name first", then the fields, a tab before each
unfoldable pub tabbed : List (List ℕ) → List ℕ
tabbed [] = []
tabbed (t ∷ ts) = byte "\t" ∷ (t ++ tabbed ts)

unfoldable pub written : Request → (lent : List ℕ) → List ℕ
written q d = (form_of q).word ++ tabbed (field_texts (form_of q).kinds (parts_of q).values d)

-- "a request whose name or data the reader wouldn't take": a name of blanks alone, or with a blank before another byte, or with a
-- tab or a newline in it; data of more than 257 bytes, or more than are lent. Any number is taken, and any right.
unfoldable pub one_field : List ℕ → Bool
one_field [] = true
one_field (b ∷ bs) = both (not (either (eqb b (byte "\t")) (eqb b (byte "\n")))) (one_field bs)

abbrev pub takes_name : ℕ → Bool
takes_name n = both (both (leb 1 (length (name_text n))) (no_blank (name_text n))) (one_field (name_text n))

unfoldable pub takes_field : FieldKind → (value : ℕ) → (lent : List ℕ) → Bool
takes_field number v d = true
takes_field name v d = takes_name v
takes_field right v d = true
takes_field hex v d = both (leb v 257) (leb v (length d))

unfoldable pub takes_fields : List FieldKind → (values lent : List ℕ) → Bool
takes_fields [] vs d = true
takes_fields (k ∷ ks) [] d = false
takes_fields (k ∷ ks) (v ∷ vs) d = both (takes_field k v d) (takes_fields ks vs d)

-- and what was not read is no line
unfoldable pub takes : Request → (lent : List ℕ) → Bool
takes q d = both (ltb (parts_of q).form calls) (takes_fields (form_of q).kinds (parts_of q).values d)

-- "room too small for the line, 41; a request whose name or data the reader wouldn't take, 42; 42 first; neither changes a byte of
-- the buffer."
unfoldable pub fits : (line room : List ℕ) → Bool
fits l b = leb (length l) (length b)

unfoldable pub write_answer : Request → (lent buffer : List ℕ) → Answer
write_answer q d b = choose (takes q d) (choose (fits (written q d) b) (Done (length (written q d))) RoomTooSmall) NotWritten

unfoldable pub buffer_after : Request → (lent buffer : List ℕ) → List ℕ
buffer_after q d b = choose (both (takes q d) (fits (written q d) b)) (over b 0 (written q d)) b
