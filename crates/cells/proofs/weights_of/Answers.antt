use mathlib.Core.Path.{refl}
use Rattle.permitted.proofs.Tables.{fill_start, fills}
use Rattle.cells.proofs.weights_of.Goals as goal

pub loop-f-init : goal.loop-f-init
loop-f-init c = fill_start _ _ 512 refl

pub loop-f-preserved : goal.loop-f-preserved
loop-f-preserved c = search fills

pub returns : goal.returns
returns c = search fills
