use mathlib.Core.Path.{refl}
use Rattle.lists.specs.Choice.{choose}
use Rattle.model.specs.Calls.{judge, good_caller, enrols}
use Rattle.model.proofs.Rules.{steps}
use Rattle.frames.proofs.Inside.{runs_in_table, runs_in_scratch}
use Rattle.lookup.proofs.Rows.{caller_known, caller_unknown}
use Rattle.withdrawing.proofs.Done.{reset_done, reset_sound}
use Rattle.withdrawing.proofs.reset.Goals as goal

pub returns-then-is_none : goal.returns-then-is_none
unfolding judge good_caller enrols choose
returns-then-is_none c = record { same_state = refl; carried = search (steps, caller_unknown) }

pub clear_data-requires : goal.clear_data-requires
clear_data-requires c = search (runs_in_scratch, c.args.s.now.held)

pub reset_at-requires : goal.reset_at-requires
reset_at-requires c = search (runs_in_table, c.args.s.now.held)

pub invariant_of-s-2 : goal.invariant_of-s-2
invariant_of-s-2 c = record { held = search (reset_sound, caller_known, c.args.s.now.held) }

pub returns : goal.returns
returns c = record { same_state = refl; carried = search (reset_done, caller_known) }
