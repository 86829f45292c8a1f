use Rattle.std.proofs.Common.{sym, arith}
use Rattle.std.proofs.lemmas.Grind.{common_steps}
use Rattle.calls.proofs.Ready.{ready_sound, ready_room, refuses}
use Rattle.model.specs.declared.Operation.TheVariants.{Enrol}
use Rattle.spaces.proofs.Ready.{clears}
use Rattle.spaces.proofs.enrol.Goals as goal

pub invariant_of-enrol : goal.invariant_of-enrol
invariant_of-enrol c = record { held = ready_sound _ _ _ c.is_ready.ensures c.if-is_ready.true }

pub enrol-answer-requires : goal.enrol-answer-requires
enrol-answer-requires c = ready_room _ _ _ c.is_ready.ensures c.if-is_ready.true

pub returns-then-is_ready : goal.returns-then-is_ready
returns-then-is_ready c =
    let same = sym c.enrol-answer.ensures.same_state in
    clears _ _ (Enrol c.args.settings) _ _ tt tt _ _ _ _ c.is_ready.ensures c.if-is_ready.true c.enrol-answer.ensures.carried (grind (arith, common_steps, same))

pub returns-else-is_ready : goal.returns-else-is_ready
returns-else-is_ready c = search (refuses, c.is_ready.ensures, c.if-is_ready.false)
