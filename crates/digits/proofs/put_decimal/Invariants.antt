use Rattle.digits.proofs.Decimals.{Digits}
use Rattle.digits.proofs.put_decimal.Given as goal

abbrev pub invariant-loop-i : goal.invariant-loop-i
invariant-loop-i l = Digits l.initial.out l.at l.n l.out l.i l.rest
