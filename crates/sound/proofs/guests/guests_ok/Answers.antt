use Rattle.std.proofs.Common.{rules}
use Rattle.sound.proofs.GuestLoop.{guests_start, guests_go, guests_stop, guests_done}
use Rattle.sound.proofs.guests.guests_ok.Goals as goal

pub loop-k-init : goal.loop-k-init
loop-k-init c = search guests_start

pub returns-then-not-guest_ok : goal.returns-then-not-guest_ok
returns-then-not-guest_ok c = search (guests_stop, rules)

pub loop-k-preserved : goal.loop-k-preserved
loop-k-preserved c = search (guests_go, rules)

pub returns : goal.returns
returns c = search (guests_done, rules)
