use Rattle.lines.proofs.Taken.{Taken}
use Rattle.lines.proofs.arguments.Given as goal

abbrev pub invariant-loop-k : goal.invariant-loop-k
invariant-loop-k l = Taken l.line l.place l.first l.kind-items l.values l.end l.k
