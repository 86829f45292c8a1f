use native.Mathlib.Omega.{arith}
use Rattle.frames.proofs.Freeing.{freed_inside}
use Rattle.withdrawing.proofs.Freeing.{freeing}
use Rattle.withdrawing.proofs.blank_frames.Goals as goal

pub loop-x-init : goal.loop-x-init
loop-x-init c = (omega arith, search freeing)

pub cells_without-requires : goal.cells_without-requires
cells_without-requires c = search freed_inside

pub loop-x-preserved : goal.loop-x-preserved
loop-x-preserved c = (omega arith, search freeing)

pub returns : goal.returns
returns c = search freeing
