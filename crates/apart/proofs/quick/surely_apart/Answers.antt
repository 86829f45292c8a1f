use Rattle.apart.proofs.Rings.{ring_start, ring_go}
use Rattle.apart.proofs.Whole.{none_apart}
use Rattle.apart.proofs.quick.surely_apart.Goals as goal

pub loop-u-init : goal.loop-u-init
loop-u-init c = search ring_start

pub loop-u-preserved : goal.loop-u-preserved
loop-u-preserved c = (search ring_go, search ring_go, search ring_go, search ring_go)

pub returns : goal.returns
returns c = search none_apart
