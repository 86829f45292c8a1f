-- M-102's law on a concrete call: ENROL with four of its five settings wrong, of which the allowance stands furthest left. Assumes
-- nothing.
use Prim.Native.Nat.{◌≤◌, ◌*◌}
use mathlib.Core.Bool.{true}
use mathlib.Core.Path.{◌≡◌, refl, ap}
use native.Mathlib.Omega.{arith}
use borrow.Author.Tests.{eq-eqb}
use Rattle.lists.proofs.Choice.{both_intro}
use Rattle.model.specs.declared.Call.{Call}
use Rattle.model.specs.declared.Change.TheVariants.{Keep}
use Rattle.model.specs.declared.Operation.TheVariants.{Enrol}
use Rattle.model.specs.Answers.{number, value}
use Rattle.model.specs.Arguments.{settings_of}
use Rattle.model.specs.Calls.{good_caller, ready, decide}
use Rattle.model.specs.Decision.{Decision}
use Rattle.model.specs.Fresh.{empty_tables}
use Rattle.model.specs.Limits.{limit, here, further, RefusedFor}
use Rattle.model.proofs.Fresh.{sound_empty}
use Rattle.model.proofs.Limits.{leftmost_decides}
use Rattle.model.proofs.SoundTest.{sound_decides}
use Rattle.cases.specs.Cases.{by_first}
use Rattle.cases.proofs.Decisions.{decisions}

abbrev wrong : Call
wrong = by_first (Enrol (settings_of 1 32 2 31 2))

abbrev decision : Decision
decision = decide (empty_tables 8 1) (8 * 4096) wrong 0

ready_fresh : ready (empty_tables 8 1) (8 * 4096) ≡ true
unfolding ready
ready_fresh = both_intro _ _ ((sound_decides (empty_tables 8 1)).of (sound_empty 8 (omega arith) (omega arith))) (eq-eqb (8 * 4096) _ refl)

caller_fresh : good_caller (empty_tables 8 1) wrong.caller wrong.operation ≡ true
unfolding decisions
caller_fresh = refl

refused_for : RefusedFor (limit 32 3 (32 ≤ 31)) decision
refused_for =
    leftmost_decides (empty_tables 8 1) (8 * 4096) wrong 0 ready_fresh caller_fresh (limit 32 3 (32 ≤ 31))
    (further (omega arith, omega arith) (here (λ h. omega arith)))

pub allowance_number : number decision.answer ≡ 32
allowance_number = refused_for.number

pub allowance_place : value decision.answer ≡ 3
allowance_place = refused_for.value

pub nothing_changed : decision.change ≡ Keep
nothing_changed = ap (λ (d : Decision). d.change) refused_for.refused
