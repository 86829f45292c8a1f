use Rattle.apart.proofs.Warns.{sums}
use Rattle.apart.proofs.quick.Columns.clashes.Goals as goal

pub loop-d-init : goal.loop-d-init
loop-d-init c = search sums

pub loop-d-preserved : goal.loop-d-preserved
loop-d-preserved c = search sums depth 6

pub returns : goal.returns
returns c = search sums
