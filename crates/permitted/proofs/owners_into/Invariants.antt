use Rattle.permitted.proofs.Tables.{Powered}
use Rattle.permitted.proofs.owners_into.Given as goal

abbrev pub invariant-loop-u : goal.invariant-loop-u
invariant-loop-u l = Powered l.tags l.initial.powers l.powers l.u
