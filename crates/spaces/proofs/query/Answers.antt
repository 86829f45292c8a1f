use Rattle.lists.proofs.Rules.{tests}
use Rattle.calls.proofs.Ready.{ready_sound, refuses}
use Rattle.spaces.proofs.Ready.{asks}
use Rattle.spaces.proofs.query.Goals as goal

pub returns-then-not-is_ready : goal.returns-then-not-is_ready
returns-then-not-is_ready c = search (refuses, tests)

pub invariant_of-query : goal.invariant_of-query
invariant_of-query c = record { held = search (ready_sound, tests) }

pub returns : goal.returns
returns c = search (asks, tests)
