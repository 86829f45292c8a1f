use Rattle.writing.proofs.Remaining.{Putting}
use Rattle.writing.proofs.put_fields.Given as goal

abbrev pub invariant-loop-kind : goal.invariant-loop-kind
invariant-loop-kind l = Putting l.initial.text l.kinds l.values l.lent l.text l.kind-iterator.a.rest.now l.kind-iterator.b.rest.now
