-- For concrete lists of calls: a run from a ready machine computes with check 1 left out, as every call finds what the one before it
-- left in order, and then no byte of scratch is looked at. The scratch must be a definition that stays shut: over a variable the same
-- comparisons go past the step limit. Assumes nothing.
use mathlib.Core.List.{List, [], ◌∷◌}
use mathlib.Core.Path.{◌≡◌, refl, ap, ap₂, ◌∙◌}
use lib.ListN.{length}
use Rattle.model.specs.Answers.{number, value}
use Rattle.model.specs.Calls.{judge}
use Rattle.model.specs.Step.{Machine, Ready, Issue, Outcome, outcome, step, run}
use Rattle.model.proofs.Promise.{passed}
use Rattle.model.proofs.Sound.{ready_of, ready_kept}
use Rattle.isolation.specs.History.{Event, recorded}

-- a call where check 1 passes
abbrev pub step_with : Machine → Issue → Outcome
step_with m i = outcome m i (judge m.tables i.call (length i.buffer))

-- a list of such calls
unfoldable pub run_with : Machine → List Issue → List Outcome
run_with m [] = []
run_with m (i ∷ is) = let o : Outcome = step_with m i in o ∷ run_with o.machine is

pub step_with_lem : (m : Machine) (i : Issue) → Ready m → step m i ≡ step_with m i
unfolding step
step_with_lem m i r = ap (outcome m i) (passed m.tables i.call m.scratch i.buffer (ready_of m r))

pub run_with_lem : (is : List Issue) (m : Machine) → Ready m → run m is ≡ run_with m is
unfolding run run_with
run_with_lem [] m r = refl
run_with_lem (i ∷ is) m r =
    ap₂ ◌∷◌ (step_with_lem m i r)
    (run_with_lem is (step m i).machine (ready_kept m i r) ∙ ap (λ (o : Outcome). run_with o.machine is) (step_with_lem m i r))

-- the record of a run, by what its calls returned
unfoldable pub told : List Event → List Issue → List Outcome → List Event
told h [] os = h
told h (i ∷ is) [] = h
told h (i ∷ is) (o ∷ os) = told (record { call = i.call; number = number o.answer; value = value o.answer } ∷ h) is os

pub recorded_run : (is : List Issue) (h : List Event) (m : Machine) → recorded h m is ≡ told h is (run m is)
unfolding recorded run told
recorded_run [] h m = refl
recorded_run (i ∷ is) h m = recorded_run is _ (step m i).machine
