-- What a read or a write came to, by the number that it answered (Linux: -1 for a failure, else how many bytes were moved, and of
-- a read 0 at the end of the input) and the number of the error after it.
use Rattle.std.specs.Prelude.{ℕ, min, ◌+◌, ◌-◌, Bool, true, false, List, [], ◌∷◌, eqb, ℤ, pos, negsuc, Option, None, Some, Result, Ok, Err}
use Rattle.lists.specs.Choice.{choose}
use Rattle.lists.specs.Places.{one_if}
use Rattle.descriptors.specs.declared.Stopped.{Stopped}
use Rattle.descriptors.specs.declared.Stopped.TheVariants.{Interrupted, Failed}

-- the number of an error; the system's are above 0
unfoldable pub error_of : ℤ → ℕ
error_of (pos e) = e
error_of (negsuc e) = 0

-- Linux's EINTR: the call was interrupted before it moved anything
abbrev pub interruption : ℕ
interruption = 4

-- A call that failed moved nothing; another moved as many bytes as it answers, of at most so many.
unfoldable pub came_of : (answer error : ℤ) → (most : ℕ) → Result ℕ Stopped
came_of (pos n) e most = Ok (min n most)
came_of (negsuc n) e most = choose (eqb (error_of e) interruption) (Err Interrupted) (Err (Failed (error_of e)))

-- what a read brought: no bytes are the end of the input
unfoldable pub read_as : Result ℕ Stopped → Result (Option ℕ) Stopped
read_as (Ok n) = Ok (choose (eqb n 0) None (Some n))
read_as (Err e) = Err e

-- where the writing goes on after a write from `at` on: no bytes are no end, and no failure
unfoldable pub written_as : (at : ℕ) → Result ℕ Stopped → Result ℕ ℕ
written_as at (Ok n) = Ok (at + n)
written_as at (Err Interrupted) = Ok at
written_as at (Err (Failed e)) = Err e

-- a read into room for `most` bytes
abbrev pub got_of : (answer error : ℤ) → (most : ℕ) → Result (Option ℕ) Stopped
got_of answer error most = read_as (came_of answer error most)

-- a write of the bytes from `at` on, `size` in all
abbrev pub moved_of : (answer error : ℤ) → (size at : ℕ) → Result ℕ ℕ
moved_of answer error size at = written_as at (came_of answer error (size - at))

-- where the writing goes on; a failure leaves it where it was
unfoldable pub place_of : (at : ℕ) → Result ℕ ℕ → ℕ
place_of at (Ok p) = p
place_of at (Err e) = at

-- whether a read was interrupted, and is made again
abbrev pub interrupted : Result (Option ℕ) Stopped → Bool
interrupted (Ok n) = false
interrupted (Err Interrupted) = true
interrupted (Err (Failed e)) = false

-- how many bytes a read brought
unfoldable pub bytes_got : Result (Option ℕ) Stopped → ℕ
bytes_got (Ok (Some n)) = n
bytes_got (Ok None) = 0
bytes_got (Err e) = 0

-- how many lines end among bytes
unfoldable pub newlines : List ℕ → ℕ
newlines [] = 0
newlines (b ∷ bs) = one_if (eqb b 10) + newlines bs
