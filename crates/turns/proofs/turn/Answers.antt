use Rattle.turns.proofs.Turned.{frames_bare, unread}
use Rattle.turns.proofs.Seen.{frames_wait, unread_seen}
use Rattle.turns.proofs.turn.Goals as goal

pub returns-in-Frames-clause-taken : goal.returns-in-Frames-clause-taken
returns-in-Frames-clause-taken c = search frames_bare

pub returns-in-Frames-clause-seen : goal.returns-in-Frames-clause-seen
returns-in-Frames-clause-seen c = search frames_wait

pub returns-in-Call-clause-seen : goal.returns-in-Call-clause-seen
returns-in-Call-clause-seen c = rw c.in-Call.is c.carry.ensures.seen

pub returns-in-NotRead-clause-taken : goal.returns-in-NotRead-clause-taken
returns-in-NotRead-clause-taken c = search unread

pub returns-in-NotRead-clause-seen : goal.returns-in-NotRead-clause-seen
returns-in-NotRead-clause-seen c = search unread_seen
