-- A set of slots as a table of 33 Booleans: places 0 to 31 are slots, and the last, where an entry that names no slot looks, is
-- false. What RESET makes of the entries by the set of its caller's spaces.
use Rattle.std.specs.Prelude.{ℕ, Bool, false, List, ◌≡◌, eqb}
use Rattle.lists.specs.Choice.{choose}
use Rattle.lists.specs.Places.{map_places}
use Rattle.model.specs.declared.Entry.{Entry}
use Rattle.model.specs.Changes.{released, revoked, list_owner}
use Rattle.model.specs.Leaves.{flag}

-- the table l is the set of the slots of which p holds
pub record IsSet (p : ℕ → Bool) (l : List Bool) : Type 0 where
  pub holds : (u : ℕ) → flag l u ≡ p u
  pub last : flag l 32 ≡ false

-- guest g's entries become unused, and other guests' entries for closed spaces revoked
unfoldable pub entries_reset : (guest : ℕ) → (closed : ℕ → Bool) → List Entry → List Entry
entries_reset g closed es = map_places (λ k e. choose (eqb (list_owner k) g) (released e) (revoked closed e)) es
