-- What a search through the n places of a table has found: the place that it came to, or nothing where it came to the end.
use Rattle.std.specs.Prelude.{ℕ, Option, Some, None, ltb}
use Rattle.lists.specs.Choice.{choose}

unfoldable pub found : (n place : ℕ) → Option ℕ
found n k = choose (ltb k n) (Some k) None
