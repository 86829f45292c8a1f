-- A call's name as one number: a 1 and then its letters, so that the number tells how many there are.
use Rattle.std.specs.Prelude.{ℕ, List, [], ◌∷◌, eqb}
use Rattle.lists.specs.Choice.{choose}
use Rattle.model.specs.Names.{name_bytes}

-- what follows the first byte that is not 0
unfoldable pub after_first : List ℕ → List ℕ
after_first [] = []
after_first (b ∷ bs) = choose (eqb b 0) (after_first bs) bs

abbrev pub word_text : ℕ → List ℕ
word_text n = after_first (name_bytes n)
