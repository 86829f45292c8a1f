-- Characters and texts as bytes.
use Rattle.std.specs.Prelude.{ℕ, List, [] as []ᴸ, ◌∷◌ as ◌∷ᴸ◌}
use Prim.Native.Char.{Char, code}
use Prim.Native.String.{String, [], ◌∷◌}

-- the code of a character, which is its byte where it is of ASCII
abbrev pub byte : Char → ℕ
byte c = code c

abbrev pub bytes : String → List ℕ
bytes [] = []ᴸ
bytes (c ∷ s) = byte c ∷ᴸ bytes s
