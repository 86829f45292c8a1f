use Rattle.lists.proofs.Rules.{tests}
use Rattle.calls.proofs.Ready.{ready_sound, ready_room, refuses}
use Rattle.spaces.proofs.Ready.{stores}
use Rattle.spaces.proofs.store.Goals as goal

pub returns-then-not-is_ready : goal.returns-then-not-is_ready
returns-then-not-is_ready c = search (refuses, tests)

pub invariant_of-store : goal.invariant_of-store
invariant_of-store c = record { held = search (ready_sound, tests) }

pub store-requires : goal.store-requires
store-requires c = search (tests, ready_room)

pub returns : goal.returns
returns c = search (stores, tests)
