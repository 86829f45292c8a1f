use Rattle.std.proofs.Common.{sym, arith}
use Rattle.std.proofs.lemmas.Grind.{common_steps}
use Rattle.lists.proofs.Rules.{tests}
use Rattle.calls.proofs.Ready.{ready_sound, ready_room, refuses, serves_at}
use Rattle.calls.proofs.serve.Goals as goal

pub returns-then-not-is_ready : goal.returns-then-not-is_ready
returns-then-not-is_ready c = search (refuses, tests)

pub invariant_of-serve : goal.invariant_of-serve
invariant_of-serve c = record { held = search (ready_sound, tests) }

pub serve-answer-requires : goal.serve-answer-requires
serve-answer-requires c = search (ready_room, tests)

pub returns : goal.returns
returns c =
    let same = sym c.serve-answer.ensures.same_state in
    serves_at _ _ _ _ _ _ _ _ _ _ c.is_ready.ensures (search tests) c.serve-answer.ensures.served (grind (arith, common_steps, same))
