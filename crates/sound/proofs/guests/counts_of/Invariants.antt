use Rattle.sound.proofs.Counts.{Counting}
use Rattle.sound.proofs.guests.counts_of.Given as goal

abbrev pub invariant-loop-t : goal.invariant-loop-t
invariant-loop-t l = Counting l.tags l.counts l.t-index
