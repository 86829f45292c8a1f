-- The record `session` is that of the paper's session, lines 2 to 9, from a fresh state of eight frames. Guest 2's fetch through
-- register 5 then reaches space 3, so that the theorem of the second half speaks of it; and after an ISOLATE that theorem says
-- that it does not. Assumes nothing.
use Prim.Native.Nat.{ℕ}
use mathlib.Core.List.{List, [], ◌∷◌}
use mathlib.Core.Logic.{inr}
use mathlib.Core.Path.{◌≡◌, refl, sym, ap, ◌∙◌}
use native.Mathlib.Omega.{arith}
use lib.ListN.{length, length-replicate}
use Rattle.model.specs.declared.Operation.TheVariants.{Isolate}
use Rattle.model.specs.declared.Right.TheVariants.{Read}
use Rattle.model.specs.Answers.{number}
use Rattle.model.specs.Step.{Machine, Ready, Issue, Outcome, after_run}
use Rattle.model.proofs.Fresh.{sound_empty}
use Rattle.isolation.specs.Ground.{Ground}
use Rattle.isolation.specs.History.{Event, recorded}
use Rattle.isolation.specs.Kept.{left_by}
use Rattle.isolation.specs.Records.{done, session, fetch}
use Rattle.cases.specs.Instance.{blank, fresh, lines, isolating}
use Rattle.isolation.specs.Reaches.{Reaches}
use Rattle.isolation.proofs.Grounded.{grounded}
use Rattle.cases.proofs.Decisions.{decisions}
use Rattle.cases.proofs.InstanceRun.{run_with, step_with_lem, run_with_lem, told, recorded_run}
use Rattle.isolation.proofs.Kept.{left_run}
use Rattle.isolation.proofs.RecordKept.{ready_run}
use Rattle.isolation.proofs.Records.{none_isolated}

long : length blank ≡ 32768
unfolding blank
long = length-replicate {A = ℕ} 32768 0

ready_fresh : Ready fresh
ready_fresh = record { sound = sound_empty 8 (omega arith) (omega arith); room = long }

-- the records
abbrev Told : List Issue → List Event → Type 0
Told is h = told [] is (run_with fresh is) ≡ h

computed : Told lines session × Told isolating (done 1 (Isolate 3) 0 ∷ session)
unfolding decisions told run_with
computed = (refl, refl)

record_is : (is : List Issue) (h : List Event) → Told is h → recorded [] fresh is ≡ h
record_is is h e = recorded_run is [] fresh ∙ ap (told [] is) (run_with_lem is fresh ready_fresh) ∙ e

pub session_recorded : recorded [] fresh lines ≡ session
session_recorded = record_is lines session computed.0

pub isolating_recorded : recorded [] fresh isolating ≡ done 1 (Isolate 3) 0 ∷ session
isolating_recorded = record_is isolating _ computed.1

-- what the lines leave
after : Machine
after = left_by fresh (run_with fresh lines)

is_after : after_run fresh lines ≡ after
unfolding after
is_after = sym (left_run fresh lines) ∙ ap (left_by fresh) (run_with_lem lines fresh ready_fresh)

ready_after : Ready after
ready_after = rw is_after at (ready_run lines fresh ready_fresh)

pub session_reaches : Reaches (after_run fresh lines) (fetch 2) 3
unfolding after decisions left_by run_with
session_reaches = rw is_after (record {
  done = ap (λ (o : Outcome). number o.answer) (step_with_lem after (fetch 2) ready_after);
  register = 5;
  through = refl;
  slot = 2;
  live = omega arith;
  space = refl;
  named = inr ((λ e. omega arith), record { right = Read; valid = refl });
})

-- the theorem gives the ground that is built by hand in Records, and where there is none, that the fetch does not reach the space
pub session_ground : Ground session (fetch 2) 3
session_ground = rw session_recorded at (grounded 8 blank lines (fetch 2) 3 ready_fresh session_reaches)

pub isolating_misses : Reaches (after_run fresh isolating) (fetch 2) 3 → ⊥
isolating_misses r = none_isolated (rw isolating_recorded at (grounded 8 blank isolating (fetch 2) 3 ready_fresh r))
