use Rattle.apart.proofs.Warns.{sums}
use Rattle.apart.proofs.quick.Columns.clashes_at.Goals as goal

pub loop-u-init : goal.loop-u-init
loop-u-init c = search sums

pub loop-u-preserved : goal.loop-u-preserved
loop-u-preserved c = search sums depth 6

pub returns : goal.returns
returns c = search sums
