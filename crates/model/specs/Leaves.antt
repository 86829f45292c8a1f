-- Definitions that leaves of the code are proved equal to, where the paper's own definitions name something larger.
use Rattle.std.specs.Prelude.{ℕ, ◌+◌, Bool, false, List, leb, ltb, get_or, length}
use Rattle.lists.specs.Choice.{choose, both}
use Rattle.model.specs.declared.Call.{Call}
use Rattle.model.specs.declared.Guest.{Guest}
use Rattle.model.specs.declared.State.{State}
use Rattle.model.specs.Calls.{judge}
use Rattle.model.specs.Decision.{after}
use Rattle.model.specs.Searches.{enrolled}
use Rattle.model.specs.Step.{scratch_after, buffer_after}
use Rattle.model.specs.Tables.{guest_place}

-- the place of an enrolled guest, 8 for any other number
unfoldable pub caller_place : List Guest → (guest : ℕ) → ℕ
caller_place gs g = choose (enrolled gs g) (guest_place g) 8

-- a set of slots as a table of Booleans
abbrev pub flag : List Bool → (slot : ℕ) → Bool
flag l u = get_or l u false

-- f is one of n places from i on, as a frame is one of a run of frames
unfoldable pub in_run : (first size : ℕ) → (place : ℕ) → Bool
in_run i n f = both (leb i f) (ltb f (i + n))

-- scratch and the lent buffer after check 2, the checks of the arguments and the call
unfoldable pub scratch_judged : State → Call → (scratch buffer : List ℕ) → List ℕ
scratch_judged s k m b = scratch_after (after s (judge s k (length b))) (judge s k (length b)).effect m b

unfoldable pub buffer_judged : State → Call → (scratch buffer : List ℕ) → List ℕ
buffer_judged s k m b = buffer_after (after s (judge s k (length b))) (judge s k (length b)).effect m b
