-- A store answered 0, followed by a fetch of the same bytes, gives them back; and it changed nothing else. Assumes nothing.
use Prim.Native.Nat.{ℕ, ◌+◌}
use mathlib.Core.Bool.{true}
use mathlib.Core.List.{List}
use mathlib.Core.Logic.{◌≢◌}
use mathlib.Core.Path.{◌≡◌, ap, ◌∙◌}
use lib.ListN.{length}
use borrow.Author.Tests.{le-leb}
use Rattle.lists.specs.Bytes.{over}
use Rattle.lists.specs.Choice.{choose, implies}
use Rattle.model.specs.declared.Caller.{Caller}
use Rattle.model.specs.declared.Change.TheVariants.{Keep}
use Rattle.model.specs.declared.Operation.TheVariants.{Fetch, Store}
use Rattle.model.specs.declared.State.{State}
use Rattle.model.specs.Answers.{number}
use Rattle.model.specs.Arguments.{arguments, check_all}
use Rattle.model.specs.Calls.{access, access_at, target, fetching, perform, enrols, good_caller, judge, ready, decide, access_key}
use Rattle.model.specs.Decision.{Decision, fetch, store, accept, check}
use Rattle.model.specs.Frames.{bytes_of, size_of}
use Rattle.model.specs.Granted.{Accessed, Performed, AllFit, Granted}
use Rattle.model.specs.Lawful.{Inside}
use Rattle.model.specs.Sound.{Live}
use Rattle.model.specs.Step.{Machine, Ready, Issue, Outcome, decision, outcome, step, scratch_after, buffer_after}
use Rattle.model.proofs.Reached.{reached_live}
use Rattle.model.proofs.Refusals.{done_granted}
use Rattle.model.proofs.Sound.{ready_to, ready_of, ready_kept}
use Rattle.model.proofs.SpaceBytes.{store_fetch, store_own, store_other}
use Rattle.model.proofs.Keys.{store_fetches}

abbrev store_of : Caller → (register address : ℕ) → List ℕ → Issue
store_of c r a b = record { call = record { caller = c; operation = Store r a }; buffer = b }

abbrev fetch_of : Caller → (register address : ℕ) → List ℕ → Issue
fetch_of c r a b = record { call = record { caller = c; operation = Fetch r a }; buffer = b }

-- what a done store has found
module _ (m : Machine) (c : Caller) (r a : ℕ) (b : List ℕ) (done : number (step m (store_of c r a b)).answer ≡ 0) where
  abbrev s : State
  s = m.tables

  all : Granted s (length m.scratch) (store_of c r a b).call (length b) (decision m (store_of c r a b))
  unfolding step
  all = done_granted s (length m.scratch) (store_of c r a b).call (length b) done

  pub found : Accessed s c r a (length b) true (λ u. store u a) (decision m (store_of c r a b))
  unfolding Performed
  found = all.performed

  pub fine : Ready m
  fine = ready_to m all.ready

  pub within : Inside s found.slot a (length b)
  unfolding target good_caller enrols choose
  within = record { live = reached_live s fine.sound c.guest _ found.slot found.right all.caller found.reached; fits = found.inside }

  -- it leaves the tables
  pub store_machine : (step m (store_of c r a b)).machine ≡ record { tables = s; scratch = scratch_after s (store found.slot a) m.scratch b }
  unfolding step
  store_machine = ap (λ (d : Decision). (outcome m (store_of c r a b) d).machine) found.is

  -- "a store replaces only the bytes named": in its space, and in every other none
  pub store_replaces : bytes_of s found.slot (step m (store_of c r a b)).machine.scratch ≡ over (bytes_of s found.slot m.scratch) a b
  unfolding scratch_after
  store_replaces = rw store_machine (store_own s fine.sound found.slot a b m.scratch within fine.room)

  pub store_spares : (v : ℕ) → Live s.spaces v → v ≢ found.slot → bytes_of s v (step m (store_of c r a b)).machine.scratch ≡ bytes_of s v m.scratch
  unfolding scratch_after
  store_spares v l ne = rw store_machine (store_other s fine.sound found.slot a b m.scratch within v l ne)

  -- a fetch through the same register is then answered 0
  fetch_decision : (n : ℕ) → ready s n ≡ true → decide s n (fetch_of c r a b).call (length b) ≡ accept 0 Keep (fetch found.slot a)
  unfolding decide judge check check_all arguments AllFit good_caller enrols choose perform fetching access access_at implies
  fetch_decision n e =
      rw (
        e,
        all.caller,
        all.arguments.0,
        all.arguments.1.0,
        found.reached,
        le-leb (a + length b) (size_of s.spaces found.slot) found.inside,
        store_fetches s (access_key s c) found.slot a (length b) found.key,
      )

  abbrev then : List ℕ → Outcome
  then e = step (step m (store_of c r a b)).machine (fetch_of c r a e)

  abbrev left : Machine
  left = record { tables = s; scratch = scratch_after s (store found.slot a) m.scratch b }

  then_is : (e : List ℕ) → length e ≡ length b → then e ≡ outcome left (fetch_of c r a e) (accept 0 Keep (fetch found.slot a))
  unfolding step
  then_is e same =
      let q : decision left (fetch_of c r a e) ≡ accept 0 Keep (fetch found.slot a) = rw same (fetch_decision (length left.scratch) (ready_of left (rw store_machine at (ready_kept m (store_of c r a b) fine)))) in
      ap (λ (x : Machine). outcome x (fetch_of c r a e) (decision x (fetch_of c r a e))) store_machine
      ∙ ap (λ (d : Decision). outcome left (fetch_of c r a e) d) q

  -- and gives back what was stored
  pub stored_back : (e : List ℕ) → length e ≡ length b → (number (then e).answer ≡ 0) × ((then e).buffer ≡ b)
  unfolding number buffer_after scratch_after
  stored_back e same = (
    ap (λ (o : Outcome). number o.answer) (then_is e same),
    ap (λ (o : Outcome). o.buffer) (then_is e same)
        ∙ rw same (store_fetch s fine.sound found.slot a b m.scratch within fine.room),
  )
