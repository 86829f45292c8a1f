-- What a caller learns of a feed and of a finish: what was taken lies in the input, what was written lies in `out`, and where
-- there is room for a reply something was taken. Assumes nothing.
use Prim.Native.Nat.{ℕ, zero, suc, ◌≤◌, ◌<◌}
use mathlib.Core.Bool.{Bool, false}
use mathlib.Core.List.{List}
use native.Mathlib.Omega.{arith}
use lib.ListN.{length}
use Rattle.feeds.specs.Feed.{Feed, said}
use Rattle.feeds.specs.Fed.{FedTo, FinishedTo, finished, full}

pub fed_within : (f : Feed) (input out : List ℕ) (used written : ℕ) (f' : Feed) (out' : List ℕ) → FedTo f input out used written f' out' → used ≤ length input
fed_within f input out used written f' out' t = t.going.within

pub fed_written : (f : Feed) (input out : List ℕ) (used written : ℕ) (f' : Feed) (out' : List ℕ) → FedTo f input out used written f' out' → written ≤ length out
fed_written f input out used written f' out' t = let w = t.going.text in omega (arith, w.room, w.place)

pub fed_some : (f : Feed) (input out : List ℕ) (used written : ℕ) (f' : Feed) (out' : List ℕ) → FedTo f input out used written f' out'
    → 600 ≤ length out → 0 < length input → 0 < used
unfolding said
fed_some f input out zero written f' out' t k n = let w = t.going.text in omega (arith, w.place, t.stopped n)
fed_some f input out (suc used) written f' out' t k n = omega arith

pub finished_written : (f : Feed) (m out : List ℕ) (done : Bool) (written : ℕ) (m' out' : List ℕ) → FinishedTo f m out done written m' out' → written ≤ length out
finished_written f m out _ _ m' out' (finished k w e) = omega (arith, w.room, w.place)
finished_written f m out _ _ _ _ (full k) = omega arith

-- the end is left undone only where there is no room for a reply
pub undone_room : {f : Feed} {m out m' out' : List ℕ} {written : ℕ} → FinishedTo f m out false written m' out' → length out < 600
undone_room (full k) = k
