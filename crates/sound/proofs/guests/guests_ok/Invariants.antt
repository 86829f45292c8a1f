use Rattle.sound.proofs.GuestLoop.{Passed}
use Rattle.sound.proofs.guests.guests_ok.Given as goal

abbrev pub invariant-loop-k : goal.invariant-loop-k
invariant-loop-k l = Passed l.tags l.counts l.guests l.cpus l.k
