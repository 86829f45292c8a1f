-- How long the fields of a line may be.
use Rattle.std.specs.Prelude.{ℕ, ◌+◌, List, [], ◌∷◌}
use Rattle.model.specs.Lines.{FieldKind, number, name, right, hex}

-- the most bytes that a field of its kind has: numbers are written in 20 digits at most, whatever they are
unfoldable pub most_of : FieldKind → ℕ
most_of number = 20
most_of name = 8
most_of right = 1
most_of hex = 514

-- and fields, with a tab before each
unfoldable pub most_in : List FieldKind → ℕ
most_in [] = 0
most_in (k ∷ ks) = 1 + most_of k + most_in ks

-- the most bytes of a line that is written: the code's `MOST_BYTES`
abbrev pub most_bytes : ℕ
most_bytes = 583
