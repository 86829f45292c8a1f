use Rattle.turns.proofs.Turned.{frames_again, frames_out, frames_done}
use Rattle.turns.proofs.frames.Goals as goal

pub returns-then-host-clause-taken : goal.returns-then-host-clause-taken
returns-then-host-clause-taken c = search frames_again

pub returns-then-not-good_frames-clause-taken : goal.returns-then-not-good_frames-clause-taken
returns-then-not-good_frames-clause-taken c = search frames_out

pub returns-clause-taken : goal.returns-clause-taken
returns-clause-taken c = search frames_done
