use Rattle.std.proofs.Common.{◌≡◌, length}
use Rattle.model.specs.Written.{unpadded}
use Rattle.letters.proofs.unpadded.Given as goal

abbrev pub invariant-loop-last : goal.invariant-loop-last
invariant-loop-last l = unpadded l.rest ≡ unpadded l.name

abbrev pub decreases-loop-last : goal.decreases-loop-last
decreases-loop-last l = length l.rest
