-- Choices by a Boolean. They stay shut, so that a proof takes one test at a time by a law.
use Rattle.std.specs.Prelude.{Bool, true, false}

unfoldable pub choose : {A : Type 0} → Bool → A → A → A
choose true a b = a
choose false a b = b

unfoldable pub both : Bool → Bool → Bool
both true b = b
both false b = false

unfoldable pub either : Bool → Bool → Bool
either true b = true
either false b = b

unfoldable pub implies : Bool → Bool → Bool
implies true b = b
implies false b = true
