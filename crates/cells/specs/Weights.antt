-- One number for each cell, and the highest of many.
use Rattle.std.specs.Prelude.{ℕ, zero, suc, List, ltb}
use Rattle.lists.specs.Choice.{choose}
use Rattle.lists.specs.Places.{one_if}
use Rattle.model.specs.declared.Cell.{Cell}
use Rattle.model.specs.Tables.{cell_at}

unfoldable pub larger : (m n : ℕ) → ℕ
larger m n = choose (ltb m n) n m

-- the key, or 1 for a mark with key 0: 0 of a blank cell and of no other, above 15 of one whose key is and of no other
unfoldable pub weight_of : Cell → ℕ
weight_of c = larger c.key (one_if c.mark)

abbrev pub weight_at : List Cell → (frame : ℕ) → ℕ
weight_at cs f = weight_of (cell_at cs f)

-- the highest of the first n numbers; 0 of none
unfoldable pub most_of : (ℕ → ℕ) → ℕ → ℕ
most_of f zero = 0
most_of f (suc n) = larger (most_of f n) (f n)
