use native.Mathlib.Omega.{arith}
use Rattle.frames.proofs.Freeing.{clearing}
use Rattle.frames.proofs.clear_data.Goals as goal

pub loop-x-init : goal.loop-x-init
loop-x-init c = (omega arith, search clearing)

pub clear-requires : goal.clear-requires
clear-requires c = search clearing

pub loop-x-preserved : goal.loop-x-preserved
loop-x-preserved c = (omega arith, search clearing)

pub shape_of-scratch : goal.shape_of-scratch
shape_of-scratch c = search clearing

pub returns : goal.returns
returns c = search clearing
