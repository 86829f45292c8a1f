use Rattle.fields.proofs.Decoding.{Decoded}
use Rattle.fields.proofs.hexes.decode.Given as goal

abbrev pub invariant-loop-i : goal.invariant-loop-i
invariant-loop-i l = Decoded l.f l.initial.out l.out l.i-iterator.iter.rest.now l.i-iterator.iter.size l.i-iterator.count
