use Rattle.lists.proofs.Rules.{tests}
use Rattle.calls.proofs.Ready.{ready_sound, ready_room, refuses}
use Rattle.spaces.proofs.Ready.{fetches}
use Rattle.spaces.proofs.fetch.Goals as goal

pub returns-then-not-is_ready : goal.returns-then-not-is_ready
returns-then-not-is_ready c = search (refuses, tests)

pub invariant_of-fetch : goal.invariant_of-fetch
invariant_of-fetch c = record { held = search (ready_sound, tests) }

pub fetch-requires : goal.fetch-requires
fetch-requires c = search (tests, ready_room)

pub returns : goal.returns
returns c = search (fetches, tests)
