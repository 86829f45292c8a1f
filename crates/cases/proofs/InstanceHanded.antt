-- A guest that asks about owner 0 is refused, and the place of the refused argument tells it nothing of the space that another
-- guest stores into: what it is handed is the same in both runs. Assumes nothing.
use mathlib.Core.List.{List, [], ◌∷◌}
use mathlib.Core.Path.{◌≡◌, refl, sym, ap, ◌∙◌}
use native.Mathlib.Omega.{arith}
use Rattle.lists.specs.Choice.{choose}
use Rattle.model.specs.declared.Answer.TheVariants.{Limit}
use Rattle.model.specs.declared.Kind.TheVariants.{OtherGuest}
use Rattle.model.specs.Step.{run, scratch_after, buffer_after}
use Rattle.isolation.specs.Handed.{Handed, handed_to, Away}
use Rattle.isolation.specs.TwoRuns.{StoresVaried}
use Rattle.isolation.proofs.Kept.{run_kept, unseen}
use Rattle.cases.specs.Instance.{start, holding, zeros, altered, question, asking}
use Rattle.cases.proofs.Decisions.{decisions}
use Rattle.cases.proofs.Instance.{ready_start, live_shared, outside, change_reaches, same_calls}
use Rattle.cases.proofs.InstanceRun.{run_with, run_with_lem}

varied : StoresVaried 3 (holding zeros) (asking (1 ∷ 2 ∷ [])) (asking (3 ∷ 4 ∷ []))
unfolding StoresVaried
varied = (record { call = refl; long = refl; same = λ away. absurd (away (refl, change_reaches)) }, same_calls 3 question _)

-- guest 2 makes no fetch and no store
away : Away 2 3 (holding zeros) (asking (1 ∷ 2 ∷ []))
unfolding Away
away = ((λ e r. omega arith), ((λ e r. r.through), tt))

abbrev pub refused : List Handed
refused = record { answer = Limit OtherGuest 2; buffer = [] } ∷ []

pub first_handed : handed_to 2 (asking (1 ∷ 2 ∷ [])) (run (holding zeros) (asking (1 ∷ 2 ∷ []))) ≡ refused
unfolding start decisions run_with handed_to choose scratch_after buffer_after
first_handed = ap (handed_to 2 (asking (1 ∷ 2 ∷ []))) (run_with_lem (asking (1 ∷ 2 ∷ [])) (holding zeros) ready_start)

pub second_handed : handed_to 2 (asking (3 ∷ 4 ∷ [])) (run (holding altered) (asking (3 ∷ 4 ∷ []))) ≡ refused
unfolding start
second_handed = sym (unseen start zeros altered 2 2 _ _ _ _ ready_start live_shared outside varied (run_kept _ _) (run_kept _ _) away) ∙ first_handed
