use Rattle.std.proofs.Common.{arith}
use Rattle.digits.proofs.Decimals.{digits_start, digits_turn, digits_last, digits_end}
use Rattle.digits.proofs.put_decimal.Goals as goal

pub loop-i-init : goal.loop-i-init
loop-i-init c = digits_start _ _ _ _ (omega arith) c.count.ensures.0 c.requires

pub loop-i-preserved : goal.loop-i-preserved
loop-i-preserved c = search digits_turn

pub overflow_cast-out-2 : goal.overflow_cast-out-2
overflow_cast-out-2 c = record { fits = omega (arith, digits_last _ _ _ _ _ _ c.loop-i.invariant c.loop-i-test.false) }

pub overflow_add-out-2 : goal.overflow_add-out-2
overflow_add-out-2 c = record { fits = omega (arith, digits_last _ _ _ _ _ _ c.loop-i.invariant c.loop-i-test.false) }

pub returns-clause-wrote : goal.returns-clause-wrote
returns-clause-wrote c = digits_end _ _ _ _ _ _ c.loop-i.invariant _ c.loop-i-test.false c.count.ensures.0
