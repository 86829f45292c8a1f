-- From what the inner calls give to what the public calls promise: check 1 stands between the two. Assumes nothing.
use Prim.Native.Nat.{ℕ}
use mathlib.Core.Bool.{true, false}
use mathlib.Core.List.{List}
use mathlib.Core.Path.{◌≡◌, refl, ap}
use lib.ListN.{length}
use Rattle.model.specs.declared.Answer.{Answer}
use Rattle.model.specs.declared.Answer.TheVariants.{Unsound}
use Rattle.model.specs.declared.Call.{Call}
use Rattle.model.specs.declared.State.{State}
use Rattle.model.specs.Answers.{number, value}
use Rattle.model.specs.Calls.{judge, ready, decide}
use Rattle.model.specs.Decision.{after}
use Rattle.model.specs.Leaves.{scratch_judged, buffer_judged}
use Rattle.model.specs.Promise.{Promise, step_of}
use Rattle.model.specs.Step.{Outcome, step, scratch_after, buffer_after}
use Rattle.model.proofs.Refusals.{unready}
use Rattle.model.proofs.Rules.{check_yes}

-- a promise leaves nothing free: all that a call hands back and leaves is the outcome
pub promise_whole : (o p : Outcome) → Promise o p.answer p.machine.tables p.machine.scratch p.buffer → p ≡ o
promise_whole o p q = λ i. record { answer = q.answer i; machine = record { tables = q.tables i; scratch = q.scratch i }; buffer = q.buffer i }

module _ (s : State) (k : Call) (m b : List ℕ) where
  -- check 1 refuses
  pub promise_unready : ready s (length m) ≡ false → Promise (step_of s m k b) Unsound s m b
  unfolding step scratch_after buffer_after
  promise_unready e =
      let q = unready s (length m) k (length b) e in
      rw q (record { number = refl; value = refl; answer = refl; tables = refl; scratch = refl; buffer = refl })

  -- check 1 passes
  pub passed : ready s (length m) ≡ true → decide s (length m) k (length b) ≡ judge s k (length b)
  unfolding decide
  passed e = check_yes Unsound (judge s k (length b)) e

  pub promise_ready : (a : Answer) (t : State) (m' b' : List ℕ) → ready s (length m) ≡ true → a ≡ (judge s k (length b)).answer → t ≡ after s (judge s k (length b))
      → m' ≡ scratch_judged s k m b → b' ≡ buffer_judged s k m b → Promise (step_of s m k b) a t m' b'
  unfolding step scratch_judged buffer_judged
  promise_ready a t m' b' e pa pt pm pb =
      rw (passed e) (record { number = ap number pa; value = ap value pa; answer = pa; tables = pt; scratch = pm; buffer = pb })
