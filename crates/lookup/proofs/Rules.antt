-- For search in the proofs of the calls: what the answers of the lookups say of the model's checks. `r` is what a search
-- answered. Assumes nothing.
use Prim.Native.Nat.{ℕ, ◌≤◌, ◌<◌}
use mathlib.Core.Bool.{true, false}
use mathlib.Core.Path.{◌≡◌}
use lib.Dec.{ltb}
use borrow.Author.Tests.{lt-ltb, le-ltb}

pub found_no : (r x n : ℕ) → r ≡ x → n ≤ r → ltb x n ≡ false
found_no r x n e h = rw (← e) (le-ltb r n h)

pub found_yes : (r x n : ℕ) → r ≡ x → r < n → ltb x n ≡ true
found_yes r x n e h = rw (← e) (lt-ltb r n h)

pub ruleset found = (found_no, found_yes)
