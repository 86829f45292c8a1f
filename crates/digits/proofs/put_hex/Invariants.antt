use Rattle.digits.proofs.Hexes.{Paired}
use Rattle.digits.proofs.put_hex.Given as goal

abbrev pub invariant-loop-k : goal.invariant-loop-k
invariant-loop-k l = Paired l.initial.out l.at l.bytes l.out l.k
