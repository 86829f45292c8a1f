use Rattle.permitted.specs.Columns.{number_at}
use Rattle.permitted.proofs.Tables.{Filling}
use Rattle.permitted.proofs.numbers_of.Given as goal

abbrev pub invariant-loop-k : goal.invariant-loop-k
invariant-loop-k l = Filling l.numbers (number_at l.permits) 256 l.k
