-- What follows translation, on the space that was reached: the checks 17, 18 and 22, and the bytes moved. The bytes of a space
-- lie in one run of scratch. That this is what paper 01 says is proved in access proofs/Moved.
use Rattle.std.specs.Prelude.{ℕ, ◌+◌, ◌*◌, ◌≤◌, Bool, true, false, List, leb, length, Result, Ok, Err}
use Rattle.lists.specs.Bytes.{over, part}
use Rattle.lists.specs.Choice.{choose, implies}
use Rattle.model.specs.declared.Answer.{Answer}
use Rattle.model.specs.declared.Answer.TheVariants.{Done, Addressing, Protection, KeyProtection}
use Rattle.model.specs.declared.Right.{Right}
use Rattle.model.specs.declared.Space.{Space}
use Rattle.model.specs.Calls.{writes}
use Rattle.model.specs.Sizes.{frame_size}
use Rattle.keys.specs.declared.Guard.{Guard}
use Rattle.keys.specs.Guards.{guard_allows}

-- the frames of the space stand in scratch
abbrev pub RunIn : Space → (scratch : List ℕ) → Type 0
RunIn x m = (x.first + x.pages) * frame_size ≤ length m

-- address + length is added as numbers without a width
abbrev pub inside : Space → (address length : ℕ) → Bool
inside x a n = leb (a + n) (x.pages * frame_size)

abbrev pub place_in : Space → (address : ℕ) → ℕ
place_in x a = x.first * frame_size + a

-- where in scratch an access begins that passes, where `storing` tells a store from a fetch; else what refuses it
unfoldable pub placed : Space → Right → Guard → (storing : Bool) → (address length : ℕ) → Result ℕ Answer
placed x r g w a n = choose (inside x a n) (choose (implies w (writes r)) (choose (guard_allows g w a n) (Ok (place_in x a)) (Err KeyProtection)) (Err Protection)) (Err Addressing)

unfoldable pub fetch_answer : Space → Guard → (address length : ℕ) → Answer
fetch_answer x g a n = choose (inside x a n) (choose (guard_allows g false a n) (Done 0) KeyProtection) Addressing

unfoldable pub fetched : Space → Guard → (address : ℕ) → (scratch buffer : List ℕ) → List ℕ
fetched x g a m b = choose (inside x a (length b)) (choose (guard_allows g false a (length b)) (part m (place_in x a) (length b)) b) b

unfoldable pub store_answer : Space → Right → Guard → (address length : ℕ) → Answer
store_answer x r g a n = choose (inside x a n) (choose (writes r) (choose (guard_allows g true a n) (Done 0) KeyProtection) Protection) Addressing

unfoldable pub stored : Space → Right → Guard → (address : ℕ) → (scratch buffer : List ℕ) → List ℕ
stored x r g a m b = choose (inside x a (length b)) (choose (writes r) (choose (guard_allows g true a (length b)) (over m (place_in x a) b) m) m) m
