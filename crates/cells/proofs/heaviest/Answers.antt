use Rattle.cells.proofs.Weights.{mosts}
use Rattle.cells.proofs.heaviest.Goals as goal

pub loop-w-init : goal.loop-w-init
loop-w-init c = search mosts

pub loop-w-preserved : goal.loop-w-preserved
loop-w-preserved c = search mosts

pub returns : goal.returns
returns c = search mosts
