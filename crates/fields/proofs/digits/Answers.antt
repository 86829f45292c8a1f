use Rattle.std.proofs.Common.{arith}
use Rattle.fields.proofs.FieldEnds.{at_tab, past_end}
use Rattle.fields.proofs.Readings.{decimal_start, decimal_plain, decimal_turn, decimal_other, decimal_large, decimal_done}
use Rattle.fields.proofs.digits.Goals as goal

pub loop-i-init : goal.loop-i-init
loop-i-init c = (search decimal_start, search decimal_plain)

pub returns-then-b-eq9 : goal.returns-then-b-eq9
returns-then-b-eq9 c = search (decimal_done, at_tab)

pub returns-else-b-eq9 : goal.returns-else-b-eq9
returns-else-b-eq9 c = decimal_other _ _ _ _ c.loop-i.invariant.0 c.loop-i-test.true c.if-not-is_ascii_digit.ensures.cases c.if-b-eq9.false

pub returns-then-v : goal.returns-then-v
returns-then-v c = decimal_large _ _ _ _ c.loop-i.invariant.0 c.loop-i-test.true c.if-not-is_ascii_digit.ensures.cases.0 (omega arith)

pub loop-i-preserved : goal.loop-i-preserved
loop-i-preserved c =
    let digit = c.if-not-is_ascii_digit.ensures.cases in
    (decimal_turn _ _ _ _ c.loop-i.invariant.0 c.loop-i-test.true digit.0 digit.1 _ c.from.ensures, c.loop-i.invariant.1)

pub returns : goal.returns
returns c = search (decimal_done, past_end, arith)
