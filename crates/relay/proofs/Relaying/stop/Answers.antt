use Rattle.relay.proofs.Endings.{left_unread, brought_as}
use Rattle.relay.proofs.Relaying.stop.Goals as goal

pub returns-in-Ok-Some-clause-ran : goal.returns-in-Ok-Some-clause-ran
returns-in-Ok-Some-clause-ran g c = left_unread _ _ _ c.requires.0 c.requires.1 c.halt.ensures.stops (c.halt.ensures.line c.args.scratch.now)

pub returns-in-Ok-Some-clause-stops : goal.returns-in-Ok-Some-clause-stops
returns-in-Ok-Some-clause-stops g c = brought_as c.in-Ok-Some.is (rw c.in-Ok-Some.is at c.in-Ok-Some.field-0-is) c.halt.ensures.stops

pub returns-in-Err-clause-ran : goal.returns-in-Err-clause-ran
returns-in-Err-clause-ran g c =
    left_unread _ _ _ c.requires.0 c.requires.1 c.halt-in-Err.ensures.stops (c.halt-in-Err.ensures.line c.args.scratch.now)
