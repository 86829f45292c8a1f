-- What the search for a run of free frames asks of each space: whether it has one of the frames that are tried. proofs/Runs
-- has how this relates to the run of the model.
use Rattle.std.specs.Prelude.{ℕ, ◌+◌, Bool, not, eqb, leb, ltb}
use Rattle.lists.specs.Choice.{both}

-- a space of this identification, with k frames from s on, is live and has one of n frames from f on
unfoldable pub meets : (first pages id start size : ℕ) → Bool
meets f n i s k = both (not (eqb i 0)) (both (leb 1 k) (both (ltb s (f + n)) (ltb f (s + k))))
