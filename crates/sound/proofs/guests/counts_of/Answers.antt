use Rattle.sound.proofs.Counts.{counts_start, counts_go, counts_end, counts_fit}
use Rattle.sound.proofs.guests.counts_of.Goals as goal

pub loop-t-init : goal.loop-t-init
loop-t-init c = counts_start _

pub overflow_add-counts : goal.overflow_add-counts
overflow_add-counts c = search counts_fit

pub loop-t-preserved : goal.loop-t-preserved
loop-t-preserved c = search counts_go

pub returns : goal.returns
returns c = search counts_end
