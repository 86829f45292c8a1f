use Rattle.cells.proofs.Clearing.{clear_start, clear_go, clear_end}
use Rattle.cells.proofs.clear_run.Goals as goal

pub loop-f-init : goal.loop-f-init
loop-f-init c = search clear_start

pub loop-f-preserved : goal.loop-f-preserved
loop-f-preserved c = search clear_go

pub returns : goal.returns
returns c = search clear_end
