-- What became of a text of replies that was to be written.
use Rattle.std.specs.Prelude.{◌≡◌, ℕ, ◌+◌, ◌%◌, ◌<◌, List, length, take, Result, MatchResult, ⊤}
use Rattle.descriptors.specs.Came.{newlines}
use Rattle.relay.specs.declared.Failure.TheVariants.{Writing}
use Rattle.relay.specs.declared.Halt.{Halt}

-- bytes and lines are counted in 64 bits
abbrev pub counted : ℕ → ℕ
counted n = n % 18446744073709551616

-- The last line whose reply is whole, where line `line` is the first that is answered in the text: the line before it, and one
-- more for each newline.
unfoldable pub replied_to : (line : ℕ) → List ℕ → ℕ
replied_to line text = counted (counted (line + 18446744073709551615) + newlines text)

-- The first `count` bytes of the text were written, after `before` others, and not all; the last line whose reply was written whole
-- is told.
pub record Stopped (text : List ℕ) (first before : ℕ) (h : Halt) (written : ℕ) : Type 0 where
  pub error : ℕ
  pub failure : h.failure ≡ Writing error
  pub count : ℕ
  pub sum : written ≡ counted (before + count)
  pub short : count < length text
  pub last : h.line ≡ replied_to first (take count text)

-- All of the text was written, after `before` other bytes, or so much of it.
abbrev pub Spoken : (text : List ℕ) (first before : ℕ) → Result ⊤ Halt → (written : ℕ) → Type 0
Spoken text first before r written = MatchResult r (λ _. written ≡ counted (before + length text)) (λ h. Stopped text first before h written)
