use Rattle.permitted.proofs.Tables.{fills}
use Rattle.permitted.proofs.numbers_of.Goals as goal

pub loop-k-init : goal.loop-k-init
loop-k-init c = search fills

pub loop-k-preserved : goal.loop-k-preserved
loop-k-preserved c = search fills

pub returns : goal.returns
returns c = search fills
