-- What a program says on standard error of a read or a write that failed, as `session: writing failed (error 28) after the reply
-- to line 17`.
use Rattle.std.specs.Prelude.{ℕ, Bool, true, false, List, [], ◌∷◌, ◌++◌, eqb}
use Rattle.lists.specs.Choice.{choose}
use Rattle.lists.specs.Text.{bytes}
use Rattle.model.specs.Session.{decimal}
use Rattle.relay.specs.declared.Failure.{Failure}
use Rattle.relay.specs.declared.Failure.TheVariants.{Reading, Writing}

-- what failed, and the number of the error
abbrev pub is_reading : Failure → Bool
is_reading (Reading e) = true
is_reading (Writing e) = false

abbrev pub error_of : Failure → ℕ
error_of (Reading e) = e
error_of (Writing e) = e

unfoldable pub kind_text : (reading : Bool) → List ℕ
kind_text reading = choose reading (bytes ": reading failed (error ") (bytes ": writing failed (error ")

-- what failed
unfoldable pub failure_text : (name : List ℕ) → (reading : Bool) → (error : ℕ) → List ℕ
failure_text name reading error = name ++ (kind_text reading ++ decimal error)

-- the last line that was written whole; `first` is what the program calls the first, and `last` any other, its number left out
unfoldable pub place_text : (first last : List ℕ) → (line : ℕ) → List ℕ
place_text first last line =
    choose (eqb line 0) (bytes ") before " ++ (first ++ (10 ∷ []))) (bytes ") after " ++ (last ++ (decimal line ++ (10 ∷ []))))

unfoldable pub message_text : (name first last : List ℕ) → (reading : Bool) → (error line : ℕ) → List ℕ
message_text name first last reading error line = failure_text name reading error ++ place_text first last line
