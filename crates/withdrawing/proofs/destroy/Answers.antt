use mathlib.Core.Path.{refl}
use Rattle.lists.specs.Choice.{choose}
use Rattle.model.specs.Arguments.{arguments, check_all}
use Rattle.model.specs.Calls.{judge, good_caller, enrols, perform, destroy}
use Rattle.model.proofs.Rules.{steps}
use Rattle.frames.proofs.Inside.{runs_in_table, run_in_scratch}
use Rattle.lookup.proofs.Owning.{settling, owned_low}
use Rattle.lookup.proofs.Rows.{caller_known, caller_unknown}
use Rattle.withdrawing.proofs.Done.{primary_found, destroy_done, destroy_sound}
use Rattle.withdrawing.proofs.destroy.Goals as goal

pub returns-then-is_none : goal.returns-then-is_none
unfolding judge good_caller enrols choose
returns-then-is_none c = record { same_state = refl; carried = search (steps, caller_unknown) }

pub returns-in-Err : goal.returns-in-Err
unfolding judge good_caller enrols choose arguments check_all perform destroy
returns-in-Err c = record { same_state = refl; carried = search (steps, caller_known, settling) depth 8 }

pub bounds-s-slot : goal.bounds-s-slot
bounds-s-slot c = search owned_low

pub returns-then-is_base : goal.returns-then-is_base
unfolding judge good_caller enrols choose arguments check_all perform destroy
returns-then-is_base c = record { same_state = refl; carried = search (steps, caller_known, settling, primary_found) depth 8 }

pub clear-requires : goal.clear-requires
clear-requires c = search (run_in_scratch, c.args.s.now.held)

pub destroy_at-requires : goal.destroy_at-requires
destroy_at-requires c = search (owned_low, runs_in_table, c.args.s.now.held)

pub returns : goal.returns
returns c = record { same_state = refl; carried = search (destroy_done, caller_known) }

pub invariant_of-s-2 : goal.invariant_of-s-2
invariant_of-s-2 c = record { held = search (destroy_sound, caller_known, c.args.s.now.held) }
