-- A list of calls that each kept its contract is a run of the model, so both halves of demand 3 hold of it. Assumes nothing.
use Prim.Native.Nat.{ℕ}
use mathlib.Core.Bool.{Bool, true, false}
use mathlib.Core.List.{List, [], ◌∷◌}
use mathlib.Core.Path.{◌≡◌, refl, ap, ap₂, ◌∙◌}
use Rattle.lists.proofs.Choice.{yes!, no! }
use Rattle.model.specs.declared.Answer.TheVariants.{Limit}
use Rattle.model.specs.declared.Kind.TheVariants.{Frames}
use Rattle.model.specs.declared.Reply.{Reply}
use Rattle.model.specs.declared.State.{State}
use Rattle.model.specs.Fresh.{empty_tables, frames_in_range, fresh}
use Rattle.model.specs.Replies.{reply}
use Rattle.model.specs.Sound.{Sound}
use Rattle.model.specs.Step.{Machine, Ready, Issue, Outcome, step, run, after_run}
use Rattle.model.proofs.Fresh.{zeros_unsound}
use Rattle.model.proofs.Promise.{promise_whole}
use Rattle.isolation.specs.Ground.{Ground}
use Rattle.isolation.specs.Handed.{Unseen}
use Rattle.isolation.specs.History.{recorded}
use Rattle.isolation.specs.Kept.{Kept, left_by, IsolationKept, GroundedKept}
use Rattle.isolation.specs.Reaches.{Reaches}
use Rattle.isolation.proofs.Grounded.{grounded}
use Rattle.isolation.proofs.Handed.{same_handed}
use Rattle.isolation.proofs.Isolation.{isolation}

-- what the calls gave back, whole, is what the model's calls give
pub kept_run : (m : Machine) (is : List Issue) (os : List Outcome) → Kept m is os → os ≡ run m is
unfolding Kept run
kept_run m [] [] k = refl
kept_run m [] (o ∷ os) k = absurd k
kept_run m (i ∷ is) [] k = absurd k
kept_run m (i ∷ is) (o ∷ os) k =
    let here = promise_whole (step m i) o k.0 in
    ap₂ (λ (p : Outcome) (ps : List Outcome). p ∷ ps) here (kept_run o.machine is os k.1 ∙ ap (λ (p : Outcome). run p.machine is) here)

-- and a run of the model keeps every contract
pub run_kept : (m : Machine) (is : List Issue) → Kept m is (run m is)
unfolding Kept run
run_kept m [] = tt
run_kept m (i ∷ is) = (record { number = refl; value = refl; answer = refl; tables = refl; scratch = refl; buffer = refl }, run_kept (step m i).machine is)

pub left_run : (m : Machine) (is : List Issue) → left_by m (run m is) ≡ after_run m is
unfolding left_by run after_run
left_run m [] = refl
left_run m (i ∷ is) = left_run (step m i).machine is

pub isolation_kept : IsolationKept
isolation_kept s m₁ m₂ u is js os ps ready live outside varied k l =
    rw (kept_run _ is os k, kept_run _ js ps l) (isolation s m₁ m₂ u is js ready live outside varied)

-- and what a guest is handed that stays away from the space
pub unseen : Unseen
unseen s m₁ m₂ u g is js os ps ready live outside varied k l away =
    rw (kept_run _ is os k, kept_run _ js ps l) (same_handed _ g is js _ _ varied (isolation s m₁ m₂ u is js ready live outside varied) away)

-- a state that `fresh` gave and that is ready is the fresh state
fresh_ready : (F : ℕ) (m : List ℕ) → Ready (record { tables = (fresh F).state; scratch = m }) → (fresh F).state ≡ empty_tables F 1
unfolding fresh
fresh_ready F m ready = go (frames_in_range F) refl ready.sound
  where
    go : (b : Bool) → frames_in_range F ≡ b → Sound (fresh F).state → (fresh F).state ≡ empty_tables F 1
    go true e ok = ap (λ (r : Reply). r.state) (yes! _ _ e)
    go false e ok = let q : fresh F ≡ reply (Limit Frames 1) (empty_tables 0 0) = no! _ _ e in absurd (zeros_unsound (rw q at ok))

-- the second half, from the tables that `fresh` gave
grounded_from : (t : State) (F : ℕ) (m : List ℕ) (calls : List Issue) (os : List Outcome) (next : Issue) (id : ℕ) → t ≡ empty_tables F 1
    → Ready (record { tables = t; scratch = m }) → Kept (record { tables = t; scratch = m }) calls os → Reaches (left_by (record { tables = t; scratch = m }) os) next id
    → Ground (recorded [] (record { tables = t; scratch = m }) calls) next id
grounded_from t F m calls os next id e ready k reach =
    let at_end = ap (left_by (record { tables = t; scratch = m })) (kept_run _ calls os k) ∙ left_run _ calls in
    rw e (grounded F m calls next id (rw e at ready) (rw (at_end, e) at reach))

pub grounded_kept : GroundedKept
grounded_kept F m calls os next id ready k reach = grounded_from (fresh F).state F m calls os next id (fresh_ready F m ready) ready k reach
