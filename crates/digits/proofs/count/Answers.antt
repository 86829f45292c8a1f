use Rattle.std.proofs.Common.{arith, sym}
use Rattle.digits.proofs.Decimals.{count_by, count_zero}
use Rattle.digits.proofs.count.Goals as goal

pub returns-in-Some : goal.returns-in-Some
returns-in-Some c = let e = c.in-Some.ensures in (sym (count_by _ _ (omega arith) e.power_le e.next_power_gt), omega arith, omega (arith, e.bound))

pub returns-in-None : goal.returns-in-None
returns-in-None c = let e = c.in-None.ensures in (sym (count_zero _ e.none), omega arith, omega arith)
