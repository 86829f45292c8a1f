use native.Mathlib.Omega.{arith}
use Rattle.permitted.proofs.Tables.{may_start, may_go, may_row, may_enter, may_end}
use Rattle.permitted.proofs.may_table.Goals as goal

pub loop-i-init : goal.loop-i-init
loop-i-init c = (omega arith, may_start _)

pub loop-k-init : goal.loop-k-init
loop-k-init c = search (may_enter, arith)

pub loop-k-preserved : goal.loop-k-preserved
loop-k-preserved c = search (may_go, arith)

pub loop-i-preserved : goal.loop-i-preserved
loop-i-preserved c = search (may_row, arith)

pub returns : goal.returns
returns c = search may_end
