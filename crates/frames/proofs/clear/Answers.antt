use Rattle.frames.proofs.Clearing.{clear_fits, clear_done}
use Rattle.frames.proofs.clear.Goals as goal

pub clear-requires : goal.clear-requires
clear-requires c = search clear_fits

pub returns : goal.returns
returns c = search clear_done
