use Rattle.permitted.proofs.Tables.{Filling}
use Rattle.cells.specs.Weights.{weight_at}
use Rattle.cells.proofs.weights_of.Given as goal

abbrev pub invariant-loop-f : goal.invariant-loop-f
invariant-loop-f l = Filling l.weights (weight_at l.cells) 512 l.f
