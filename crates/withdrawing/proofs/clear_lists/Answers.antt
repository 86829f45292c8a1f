use native.Mathlib.Omega.{arith}
use Rattle.lists.proofs.Rules.{maps}
use borrow.Author.Rules.{rules}
use Rattle.withdrawing.specs.Sets.{entries_reset}
use Rattle.withdrawing.proofs.Resetting.{looks}
use Rattle.withdrawing.proofs.clear_lists.Goals as goal

pub loop-k-init : goal.loop-k-init
loop-k-init c = (omega arith, search maps)

pub bounds-closed-u : goal.bounds-closed-u
bounds-closed-u c = search (looks, rules)

pub loop-k-preserved : goal.loop-k-preserved
loop-k-preserved c = (omega arith, search (looks, rules) depth 8)

pub returns : goal.returns
unfolding entries_reset
returns c = search (maps, rules) depth 8
