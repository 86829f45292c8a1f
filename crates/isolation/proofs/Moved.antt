-- What a fetch or store moves: the bytes of the space that it reaches, from its address on, and nothing else. Assumes nothing.
use Prim.Native.Nat.{ℕ}
use mathlib.Core.Bool.{true, false}
use mathlib.Core.List.{List}
use mathlib.Core.Logic.{◌≢◌}
use mathlib.Core.Path.{◌≡◌, refl, sym, ap, ◌∙◌}
use lib.ListN.{length}
use Rattle.lists.specs.Bytes.{over, part}
use Rattle.lists.specs.Choice.{choose}
use Rattle.model.specs.declared.Caller.{Caller}
use Rattle.model.specs.declared.Operation.TheVariants.{Fetch, Store}
use Rattle.model.specs.Answers.{number}
use Rattle.model.specs.Calls.{good_caller, enrols, target}
use Rattle.model.specs.Decision.{Decision, fetch, store}
use Rattle.model.specs.Frames.{bytes_of}
use Rattle.model.specs.Granted.{Accessed, Performed, Granted}
use Rattle.model.specs.Lawful.{Inside}
use Rattle.model.specs.Searches.{enrolled}
use Rattle.model.specs.Sound.{Live}
use Rattle.model.specs.Step.{Machine, Ready, Issue, decision, outcome, step, buffer_after}
use Rattle.model.proofs.Reached.{reached_live}
use Rattle.model.proofs.Refusals.{done_granted}
use Rattle.model.proofs.SpaceBytes.{fetch_bytes}
use Rattle.model.proofs.StoreFetch.{found, store_replaces, store_spares}
use Rattle.isolation.specs.Reaches.{Reaches}
use Rattle.isolation.proofs.Reaching.{accessed, accessed_slot, slot_one}

abbrev fetch_of : Caller → (register address : ℕ) → List ℕ → Issue
fetch_of c r a b = record { call = record { caller = c; operation = Fetch r a }; buffer = b }

abbrev store_of : Caller → (register address : ℕ) → List ℕ → Issue
store_of c r a b = record { call = record { caller = c; operation = Store r a }; buffer = b }

-- A fetch answered 0.
module _ (m : Machine) (ready : Ready m) (c : Caller) (r a : ℕ) (b : List ℕ) (done : number (step m (fetch_of c r a b)).answer ≡ 0) where
  granted_fetch : Granted m.tables (length m.scratch) (fetch_of c r a b).call (length b) (decision m (fetch_of c r a b))
  unfolding step
  granted_fetch = done_granted m.tables (length m.scratch) (fetch_of c r a b).call (length b) done

  found_fetch : Accessed m.tables c r a (length b) false (λ u. fetch u a) (decision m (fetch_of c r a b))
  unfolding Performed
  found_fetch = granted_fetch.performed

  enrolled_fetch : enrolled m.tables.guests c.guest ≡ true
  unfolding good_caller enrols choose
  enrolled_fetch = granted_fetch.caller

  -- it reaches a space
  pub fetch_reaches : (x : ℕ) × Reaches m (fetch_of c r a b) x
  fetch_reaches = (_, accessed m ready (fetch_of c r a b) (decision m (fetch_of c r a b)) done r a false (λ u. fetch u a) enrolled_fetch refl found_fetch)

  -- and whichever it reaches, its buffer is that space's bytes at the address
  pub fetch_reads : (x : ℕ) (f : Reaches m (fetch_of c r a b) x) → (step m (fetch_of c r a b)).buffer ≡ part (bytes_of m.tables f.slot m.scratch) a (length b)
  unfolding step buffer_after target
  fetch_reads x f =
      let u = found_fetch.slot in
      let here = accessed m ready (fetch_of c r a b) (decision m (fetch_of c r a b)) done r a false (λ v. fetch v a) enrolled_fetch refl found_fetch in
      let same : u ≡ f.slot = sym (accessed_slot m ready (fetch_of c r a b) (decision m (fetch_of c r a b)) done r a false (λ v. fetch v a) enrolled_fetch refl found_fetch) ∙ slot_one m ready (fetch_of c r a b) _ x here f in
      let inside : Inside m.tables u a (length b) = record { live = reached_live m.tables ready.sound c.guest _ u found_fetch.right enrolled_fetch found_fetch.reached; fits = found_fetch.inside } in
      ap (λ (d : Decision). (outcome m (fetch_of c r a b) d).buffer) found_fetch.is
      ∙ fetch_bytes m.tables u a (length b) m.scratch inside
      ∙ ap (λ v. part (bytes_of m.tables v m.scratch) a (length b)) same

-- A store answered 0.
module _ (m : Machine) (ready : Ready m) (c : Caller) (r a : ℕ) (b : List ℕ) (done : number (step m (store_of c r a b)).answer ≡ 0) where
  enrolled_store : enrolled m.tables.guests c.guest ≡ true
  unfolding step good_caller enrols choose
  enrolled_store = (done_granted m.tables (length m.scratch) (store_of c r a b).call (length b) done).caller

  pub store_reaches : (x : ℕ) × Reaches m (store_of c r a b) x
  store_reaches = (_, accessed m ready (store_of c r a b) (decision m (store_of c r a b)) done r a true (λ u. store u a) enrolled_store refl (found m c r a b done))

  same : (x : ℕ) (f : Reaches m (store_of c r a b) x) → (found m c r a b done).slot ≡ f.slot
  same x f =
      sym (accessed_slot m ready (store_of c r a b) (decision m (store_of c r a b)) done r a true (λ v. store v a) enrolled_store refl (found m c r a b done))
      ∙ slot_one m ready (store_of c r a b) _ x (accessed m ready (store_of c r a b) (decision m (store_of c r a b)) done r a true (λ v. store v a) enrolled_store refl (found m c r a b done)) f

  -- it changes just the named bytes of the space that it reaches, and of every other live space none
  pub store_changes : (x : ℕ) (f : Reaches m (store_of c r a b) x) → bytes_of m.tables f.slot (step m (store_of c r a b)).machine.scratch ≡ over (bytes_of m.tables f.slot m.scratch) a b
  store_changes x f = rw (← same x f) (store_replaces m c r a b done)

  pub store_leaves : (x : ℕ) (f : Reaches m (store_of c r a b) x) (v : ℕ) → Live m.tables.spaces v → v ≢ f.slot → bytes_of m.tables v (step m (store_of c r a b)).machine.scratch ≡ bytes_of m.tables v m.scratch
  store_leaves x f v l ne = store_spares m c r a b done v l (rw (← same x f) at ne)
