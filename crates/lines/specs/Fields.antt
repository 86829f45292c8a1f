-- Where the fields of a line stand, as the code finds them.
use Rattle.std.specs.Prelude.{ℕ, List, [], ◌∷◌}
use Rattle.model.specs.Lines.{fields}

-- the fields that follow a field, given what is left of the line at its end: nothing, or a tab and what follows it
unfoldable pub following : List ℕ → List (List ℕ)
following [] = []
following (t ∷ l) = fields l
