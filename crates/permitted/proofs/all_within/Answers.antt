use Rattle.permitted.proofs.Tables.{every_none, every_go}
use Rattle.permitted.proofs.all_within.Goals as goal

pub loop-k-init : goal.loop-k-init
loop-k-init c = every_none _

pub loop-k-preserved : goal.loop-k-preserved
loop-k-preserved c = every_go _ _ _ c.loop-k.invariant
