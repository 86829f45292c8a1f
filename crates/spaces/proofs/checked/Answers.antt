use Rattle.std.proofs.Common.{refl, sym, arith}
use Rattle.std.proofs.lemmas.Grind.{common_steps}
use Rattle.lists.proofs.Rules.{tests}
use Rattle.calls.proofs.Ready.{ready_sound}
use Rattle.spaces.proofs.checked.Goals as goal

pub invariant_of-call : goal.invariant_of-call
invariant_of-call g c = record { held = search (ready_sound, tests) }

pub returns-clause-made : goal.returns-clause-made
returns-clause-made g c =
    let same = sym (c.requires.keeps _ _ _ c.call-answer.ensures) in
    λ t. (_, _, record { shown = _; shows = refl; left = _; met = c.call-answer.ensures; leaves = refl }, refl, grind (arith, common_steps, same))
