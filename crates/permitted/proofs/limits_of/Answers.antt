use mathlib.Core.Path.{refl}
use native.Mathlib.Omega.{arith}
use Rattle.permitted.proofs.Tables.{fill_start, limit_enter, limit_go, limit_row, limit_end}
use Rattle.permitted.proofs.limits_of.Goals as goal

pub loop-u-init : goal.loop-u-init
loop-u-init c = (omega arith, fill_start _ _ 256 refl)

pub loop-k-init : goal.loop-k-init
loop-k-init c = search (limit_enter, arith)

pub loop-k-preserved : goal.loop-k-preserved
loop-k-preserved c = search (limit_go, arith)

pub loop-u-preserved : goal.loop-u-preserved
loop-u-preserved c = search (limit_row, arith)

pub returns : goal.returns
returns c = search limit_end
