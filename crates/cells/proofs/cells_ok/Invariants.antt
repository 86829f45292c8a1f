use Rattle.cells.proofs.Clearing.{Used}
use Rattle.cells.proofs.cells_ok.Given as goal

abbrev pub invariant-loop-x : goal.invariant-loop-x
invariant-loop-x l = Used l.spaces l.initial.weights l.weights l.x-index
