-- A Boolean joined to its meaning: it is true exactly where the statement holds.
use Rattle.std.specs.Prelude.{Bool, true, ◌≡◌}

pub record Decides (b : Bool) (P : Type 0) : Type 0 where
  pub to : b ≡ true → P
  pub of : P → b ≡ true
