use Rattle.fields.proofs.Readings.{Padding}
use Rattle.fields.proofs.padded.Given as goal

abbrev pub invariant-loop : goal.invariant-loop
invariant-loop l = Padding l.v l.n l.p l.counter
