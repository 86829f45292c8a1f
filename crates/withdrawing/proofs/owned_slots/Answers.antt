use native.Mathlib.Omega.{arith}
use Rattle.withdrawing.proofs.Sets.{slots}
use borrow.Author.Rules.{rules}
use Rattle.withdrawing.proofs.owned_slots.Goals as goal

pub loop-u-init : goal.loop-u-init
loop-u-init c = (omega arith, search slots)

pub loop-u-preserved : goal.loop-u-preserved
loop-u-preserved c = (omega arith, search (slots, rules) depth 8)

pub returns : goal.returns
returns c = search (slots, rules) depth 8
