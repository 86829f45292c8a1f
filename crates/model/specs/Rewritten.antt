-- Paper 02, M-104: what reading and writing owe each other, and the program `rewrite`.
use Rattle.std.specs.Prelude.{ℕ, ◌≤◌, ◌<◌, true, false, List, [], ◌∷◌, ◌++◌, ◌≡◌, eqb, length, get_or}
use Rattle.lists.specs.Choice.{choose}
use Rattle.lists.specs.Text.{byte, bytes}
use Rattle.model.specs.declared.Request.{Request}
use Rattle.model.specs.declared.Request.TheVariants.{Frames, Call, NotRead}
use Rattle.model.specs.Lines.{number, name, at, read_line, data_of}
use Rattle.model.specs.Parts.{parts_of, form_of, canonical, data_in}
use Rattle.model.specs.Session.{lines_from}
use Rattle.model.specs.Written.{written, takes}

-- The code's numbers are of 32 bits, and its bytes of 8.
abbrev pub Narrow : Request → Type 0
Narrow q = (i : ℕ) → get_or (form_of q).kinds i name ≡ number → at (parts_of q).values i ≤ 4294967295

abbrev pub AllBytes : List ℕ → Type 0
AllBytes l = (i : ℕ) → i < length l → get_or l i 0 < 256

abbrev pub NoNewline : List ℕ → Type 0
NoNewline l = (i : ℕ) → i < length l → eqb (get_or l i 0) (byte "\n") ≡ false

-- "Reading a written line gives the request back", its data too
abbrev pub ReadsBack : Type 0
ReadsBack =
    (q : Request) (d : List ℕ) → Narrow q → AllBytes d → takes q d ≡ true
    → (read_line (written q d) ≡ canonical q) × (data_of (written q d) ≡ data_in q d)

-- "writing a request read from a good line gives the same bytes"
abbrev pub WritesBack : Type 0
WritesBack =
    (l : List ℕ) → AllBytes l → NoNewline l → (read_line l ≡ NotRead → ⊥)
    → (takes (read_line l) (data_of l) ≡ true) × (written (read_line l) (data_of l) ≡ l)

-- what was read is canonical
abbrev pub ReadCanonical : Type 0
ReadCanonical = (l : List ℕ) → canonical (read_line l) ≡ read_line l

-- 42 is given only where no line asks for the request with its data
abbrev pub RefusedRightly : Type 0
RefusedRightly =
    (q : Request) (d : List ℕ) → takes q d ≡ false → (l : List ℕ) → AllBytes l → NoNewline l
    → (read_line l ≡ NotRead → ⊥) → read_line l ≡ canonical q → data_of l ≡ data_in q d → ⊥

-- a written line is one line, and of at most 600 bytes
abbrev pub WrittenLine : Type 0
WrittenLine = (q : Request) (d : List ℕ) → takes q d ≡ true → NoNewline (written q d) × (length (written q d) ≤ 600)

-- The program `rewrite`: every line that the reader takes, as the writer writes it, each with a newline; nothing for the others.
unfoldable pub rewritten : (line : List ℕ) → List ℕ
rewritten l = choose (takes (read_line l) (data_of l)) (written (read_line l) (data_of l) ++ bytes "\n") []

unfoldable pub rewritten_lines : List (List ℕ) → List ℕ
rewritten_lines [] = []
rewritten_lines (l ∷ ls) = rewritten l ++ rewritten_lines ls

unfoldable pub rewritten_text : (input : List ℕ) → List ℕ
rewritten_text input = rewritten_lines (lines_from [] input)

-- so the good lines of an input come back, and no others
unfoldable pub good_line : List ℕ → Request → List ℕ
good_line l (Frames f) = l ++ bytes "\n"
good_line l (Call k n) = l ++ bytes "\n"
good_line l NotRead = []

unfoldable pub good_lines : List (List ℕ) → List ℕ
good_lines [] = []
good_lines (l ∷ ls) = good_line l (read_line l) ++ good_lines ls

abbrev pub RewritesGoodLines : Type 0
RewritesGoodLines = (input : List ℕ) → AllBytes input → rewritten_text input ≡ good_lines (lines_from [] input)
