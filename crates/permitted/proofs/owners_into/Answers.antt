use Rattle.permitted.proofs.Tables.{power_start, power_go, power_end}
use Rattle.permitted.proofs.owners_into.Goals as goal

pub loop-u-init : goal.loop-u-init
loop-u-init c = search power_start

pub loop-u-preserved : goal.loop-u-preserved
loop-u-preserved c = search power_go

pub returns : goal.returns
returns c = search power_end
