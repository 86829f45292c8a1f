-- The bytes that may stand after the first of a name, and a table of them.
use Rattle.std.specs.Prelude.{ℕ, ◌<◌, ◌/◌, ◌%◌, Bool, List, [], ◌∷◌, ◌≡◌, get_or}
use Rattle.lists.specs.Choice.{either, choose}
use Rattle.model.specs.Names.{letter, digit}

unfoldable pub later_byte : (byte : ℕ) → Bool
later_byte b = either (letter b) (digit b)

-- 1 at each byte that may stand there, 0 at every other
pub record LaterTable (t : List ℕ) : Type 0 where
  pub holds : (b : ℕ) → b < 256 → get_or t b 0 ≡ choose (later_byte b) 1 0

abbrev pub last_four : (name : ℕ) → List ℕ
last_four n = n / 16777216 % 256 ∷ n / 65536 % 256 ∷ n / 256 % 256 ∷ n % 256 ∷ []
