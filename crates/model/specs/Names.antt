-- Paper 01, "Sizes": "Names: 1 to 8 bytes, A-Z first, then A-Z or 0-9, blank-padded on the right to 8."
use Rattle.std.specs.Prelude.{ℕ, ◌/◌, ◌%◌, Bool, true, false, List, [], ◌∷◌, leb, eqb}
use Rattle.lists.specs.Choice.{both, either, choose}

abbrev pub letter : ℕ → Bool
letter b = both (leb 65 b) (leb b 90)

abbrev pub digit : ℕ → Bool
digit b = both (leb 48 b) (leb b 57)

abbrev pub blank : ℕ → Bool
blank b = eqb b 32

unfoldable pub blanks : List ℕ → Bool
blanks [] = true
blanks (b ∷ bs) = both (blank b) (blanks bs)

-- letters or digits, and from the first other byte on blanks
unfoldable pub name_rest : List ℕ → Bool
name_rest [] = true
name_rest (b ∷ bs) = choose (either (letter b) (digit b)) (name_rest bs) (blanks (b ∷ bs))

unfoldable pub name_form : List ℕ → Bool
name_form [] = false
name_form (b ∷ bs) = both (letter b) (name_rest bs)

-- the eight bytes of a name that travels as one number, first byte first. A number past 64 bits has no letter first.
unfoldable pub name_bytes : ℕ → List ℕ
name_bytes n =
    n / 72057594037927936
    ∷ n / 281474976710656 % 256
    ∷ n / 1099511627776 % 256
    ∷ n / 4294967296 % 256
    ∷ n / 16777216 % 256
    ∷ n / 65536 % 256
    ∷ n / 256 % 256
    ∷ n % 256
    ∷ []

unfoldable pub good_name : ℕ → Bool
good_name n = name_form (name_bytes n)

-- "BASE", the name of a primary space, and four blanks
abbrev pub base_name : ℕ
base_name = 4774188636346261536
