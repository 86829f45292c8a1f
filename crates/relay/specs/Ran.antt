-- How work on lines from a reader to a writer goes on and ends. The bytes that were read are some `input`, of which its length
-- is told; the bytes that were written are the first `count` of what is said to them.
use Rattle.std.specs.Prelude.{◌≡◌, ℕ, ◌+◌, ◌<◌, List, [], length, take, Option, None, Some, Result, Ok, Err, ⊤}
use Rattle.descriptors.specs.declared.Stopped.{Stopped}
use Rattle.descriptors.specs.declared.Stopped.TheVariants.{Interrupted, Failed}
use Rattle.model.specs.Session.{new_session}
use Rattle.feeds.specs.Feed.{Feed, after, said, all_said, new_rewriting}
use Rattle.feeds.specs.Fed.{closing}
use Rattle.relay.specs.declared.Failure.{Failure}
use Rattle.relay.specs.declared.Failure.TheVariants.{Reading, Writing}
use Rattle.relay.specs.declared.Halt.{Halt}
use Rattle.relay.specs.Spoken.{counted, replied_to, Spoken}

-- The work was done to the end of the input, or it failed.
abbrev pub How : Type 0
How = Result ⊤ Failure

abbrev pub how_of : Result ℕ Halt → How
how_of (Ok line) = Ok tt
how_of (Err h) = Err h.failure

-- the last line whose reply is whole
abbrev pub line_of : Result ℕ Halt → ℕ
line_of (Ok line) = line
line_of (Err h) = h.line

-- The whole piece was fed, and the replies to it written, or the writing failed.
pub record PieceTo (f : Feed) (piece : List ℕ) (before : ℕ) (r : Result ⊤ Halt) (written : ℕ) (g : Feed) : Type 0 where
  pub feed : r ≡ Ok tt → g ≡ after f piece
  pub text : Spoken (said f piece) f.line before r written

-- How the work ended, with scratch then, where so many bytes had been taken and written before.
pub data Ran (f : Feed) (t w : ℕ) : How → (line taken written : ℕ) → (scratch : List ℕ) → Type 0 where
  -- it was done on all of the input, a last line without a newline too
  answered : {line taken written : ℕ} {m : List ℕ} (input : List ℕ) → taken ≡ counted (t + length input) → written ≡ counted (w + length (all_said f input))
      → line ≡ replied_to f.line (all_said f input) → m ≡ (closing (after f input)).session.scratch → Ran f t w (Ok tt) line taken written m
  -- a read failed: it was done on all lines that had ended, and what is held of another was left
  unread : {error line taken written : ℕ} {m : List ℕ} (input : List ℕ) → taken ≡ counted (t + length input) → written ≡ counted (w + length (said f input))
      → line ≡ replied_to f.line (said f input) → m ≡ (after f input).session.scratch → Ran f t w (Err (Reading error)) line taken written m
  -- a write failed: so much of the text was written, and not all
  unwritten : {error line taken written : ℕ} {m : List ℕ} (input : List ℕ) (count : ℕ) → taken ≡ counted (t + length input) → count < length (all_said f input)
      → written ≡ counted (w + count) → line ≡ replied_to f.line (take count (all_said f input)) → Ran f t w (Err (Writing error)) line taken written m

-- What a read that brought no bytes leads to: only at the end of the input is the work done to its end.
pub data Stops : Result (Option ℕ) Stopped → How → Type 0 where
  ended : Stops (Ok None) (Ok tt)
  ended_unwritten : {error : ℕ} → Stops (Ok None) (Err (Writing error))
  failed : {error : ℕ} → Stops (Err (Failed error)) (Err (Reading error))
  interrupted : Stops (Err Interrupted) (Err (Reading 4))
  -- not asked
  brought : {n : ℕ} → Stops (Ok (Some n)) (Err (Reading 0))

-- A whole session, with its header.
pub data RunTo (f : Feed) : How → (line taken written : ℕ) → (scratch : List ℕ) → Type 0 where
  headed : {how : How} {line taken written : ℕ} {m : List ℕ} → Ran f 0 0 how line taken written m → RunTo f how line taken written m
  -- the header could not be written, and nothing was read
  unheaded : {error : ℕ} → RunTo f (Err (Writing error)) 0 0 0 f.session.scratch

-- Lines written again, from the first on: there is no scratch.
abbrev pub RewroteTo : How → (line taken written : ℕ) → Type 0
RewroteTo how line taken written = Ran (new_rewriting (new_session [])) 0 0 how line taken written []
