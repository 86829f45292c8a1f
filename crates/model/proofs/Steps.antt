-- What every step keeps, and the answer that none gives. Assumes nothing.
use mathlib.Core.Bool.{Bool, true, false}
use mathlib.Core.Logic.{◌≢◌}
use mathlib.Core.Path.{◌≡◌, refl, ap}
use lib.ListN.{length}
use Rattle.lists.specs.Choice.{either}
use Rattle.lists.proofs.Choice.{true_false}
use Rattle.model.specs.declared.Operation.{Operation}
use Rattle.model.specs.declared.Operation.TheVariants.{Enrol, Create, Destroy, Permit, Isolate, Query, Add, Remove, Load, Mode, Fetch, Store, Reset, Key, Block}
use Rattle.model.specs.Answers.{number}
use Rattle.model.specs.Calls.{ready}
use Rattle.model.specs.Decision.{Decision, after}
use Rattle.model.specs.Step.{Machine, Issue, decision, step}
use Rattle.model.specs.Verdict.{row, own_row, listed}
use Rattle.model.proofs.Lawful.{lawful_step}
use Rattle.model.proofs.Refusals.{answer_listed, unready}
use Rattle.model.proofs.Sound.{ready_to, length-scratch_after}

-- no call is answered 21: no row lists it
no_row : (k : Operation) → listed 21 (row k) ≡ false
unfolding row own_row listed either
no_row (Enrol x) = refl
no_row (Create name pages) = refl
no_row (Destroy id) = refl
no_row (Permit id guest right) = refl
no_row (Isolate id) = refl
no_row (Query owner name) = refl
no_row (Add id right) = refl
no_row (Remove token) = refl
no_row (Load register value) = refl
no_row (Mode m) = refl
no_row (Fetch register address) = refl
no_row (Store register address) = refl
no_row Reset = refl
no_row (Key key) = refl
no_row (Block id address key mark) = refl

pub never_21 : (m : Machine) (i : Issue) → number (step m i).answer ≢ 21
unfolding step
never_21 m i e =
    let l = answer_listed m.tables (length m.scratch) i.call (length i.buffer) in
    true_false (rw e at l) (no_row i.call.operation)

-- a call keeps F and the length of scratch
pub frames_kept : (m : Machine) (i : Issue) → (step m i).machine.tables.frames ≡ m.tables.frames
unfolding step
frames_kept m i = go (ready m.tables (length m.scratch)) refl
  where
    go : (b : Bool) → ready m.tables (length m.scratch) ≡ b → (after m.tables (decision m i)).frames ≡ m.tables.frames
    go true e = (lawful_step m i (ready_to m e)).frames
    go false e = ap (λ (d : Decision). (after m.tables d).frames) (unready m.tables (length m.scratch) i.call (length i.buffer) e)

pub room_kept : (m : Machine) (i : Issue) → length (step m i).machine.scratch ≡ length m.scratch
unfolding step
room_kept m i = length-scratch_after _ (decision m i).effect m.scratch i.buffer
