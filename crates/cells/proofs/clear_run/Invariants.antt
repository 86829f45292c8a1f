use Rattle.cells.proofs.Clearing.{Clearing}
use Rattle.cells.proofs.clear_run.Given as goal

abbrev pub invariant-loop-f : goal.invariant-loop-f
invariant-loop-f l = Clearing l.initial.weights l.weights l.first l.end l.f
