use native.Mathlib.Omega.{arith}
use Rattle.closing.proofs.Closed.{turns, entries_done}
use Rattle.closing.proofs.entries_without.Goals as goal

pub loop-k-init : goal.loop-k-init
loop-k-init c = (omega arith, search turns)

pub loop-k-preserved : goal.loop-k-preserved
loop-k-preserved c = (omega arith, search turns)

pub loop-k-2-init : goal.loop-k-2-init
loop-k-2-init c = search turns

pub loop-k-2-preserved : goal.loop-k-2-preserved
loop-k-2-preserved c = search turns

pub returns : goal.returns
returns c = search entries_done
