-- The second half of demand 3. What a fetch or store reaches is what the record tells of its token, and what the record tells
-- has its ground in earlier calls. Assumes nothing.
use Prim.Native.Nat.{ℕ, ◌<◌}
use mathlib.Core.Bool.{true}
use mathlib.Core.List.{List, []}
use mathlib.Core.Logic.{◌≢◌, ◌⊎◌, inl, inr}
use mathlib.Core.Path.{◌≡◌, refl, sym, ap, ◌∙◌}
use native.Mathlib.Decide.{ℕ_discrete}
use native.Mathlib.Omega.{arith}
use lib.ListN.{length}
use borrow.Author.Tests.{eq-eqb, ne_eqb, leb-true}
use Rattle.lists.proofs.Choice.{true_false, yes!, no!, choose_elim}
use Rattle.model.specs.declared.Right.{Right}
use Rattle.model.specs.declared.Right.TheVariants.{Read, Write}
use Rattle.model.specs.Calls.{target, writes}
use Rattle.model.specs.Classes.{Moves, no_bytes, from_space, to_space, class_of, stores_bytes}
use Rattle.model.specs.Decision.{Effect, fetch, store}
use Rattle.model.specs.Fresh.{empty_tables}
use Rattle.model.specs.Searches.{enrolled}
use Rattle.model.specs.Step.{Machine, Ready, Issue, decision, step, after_run}
use Rattle.model.specs.Tables.{space_at}
use Rattle.model.specs.Tokens.{malformed}
use Rattle.model.specs.Translation.{reaches}
use Rattle.model.proofs.Moving.{Transferred, MovedAs, performed_moved}
use Rattle.model.proofs.Refusals.{done_granted}
use Rattle.isolation.specs.Agrees.{given}
use Rattle.isolation.specs.Ground.{Did, ByEntry, Ground, Grounded}
use Rattle.isolation.specs.History.{Event, Deed, recorded}
use Rattle.isolation.specs.Reaches.{MovesThrough, Reaches}
use Rattle.isolation.specs.Recall.{space, misformed, home_in, owner_in, token_in, recall, used_in}
use Rattle.isolation.proofs.Reaching.{touches, reaches_one}
use Rattle.isolation.proofs.Recall.{agreeing}
use Rattle.isolation.proofs.Record.{Recorded}
use Rattle.isolation.proofs.RecordKept.{ready_run, recorded_all}
use Rattle.isolation.proofs.RecordTells.{TokenDid, owner_did, home_did, token_did}

-- a fetch or store through register r that was answered 0: where its token led
record Used (m : Machine) (i : Issue) (v : Moves) (r : ℕ) : Type 0 where
  caller : enrolled m.tables.guests i.call.caller.guest ≡ true
  small : r < 16
  slot : ℕ
  right : Right
  reached : target m.tables i.call.caller r ≡ reaches slot right
  reaches : Reaches m i (space_at m.tables.spaces slot).id
  write : stores_bytes v ≡ true → right ≡ Write

writes_write : (r : Right) → writes r ≡ true → r ≡ Write
unfolding writes
writes_write Read e = true_false refl (sym e)
writes_write Write e = refl

used_through : (m : Machine) (i : Issue) (v : Moves) (r a : ℕ) (f : ℕ → Effect) → (p : Transferred m.tables i.call.caller r a (length i.buffer) (stores_bytes v) f (decision m i))
    → Reaches m i (space_at m.tables.spaces p.accessed.slot).id → Used m i v r
used_through m i v r a f p reaches = record {
  caller = p.caller;
  small = omega (arith, leb-true r 15 p.register);
  slot = p.accessed.slot;
  right = p.accessed.right;
  reached = p.accessed.reached;
  reaches = reaches;
  write = λ w. writes_write p.accessed.right (p.accessed.writable w);
}

used_by : (m : Machine) → Ready m → (i : Issue) (v : Moves) (r : ℕ) → MovesThrough v r → MovedAs m.tables i.call.caller (length i.buffer) v (decision m i) → Used m i v r
used_by m ready i no_bytes r t p = absurd t
used_by m ready i (from_space register address) r t p =
    rw (← t) (used_through m i (from_space register address) register address (λ u. fetch u address) p (rw p.accessed.is at (touches m ready i)))
used_by m ready i (to_space register address) r t p =
    rw (← t) (used_through m i (to_space register address) register address (λ u. store u address) p (rw p.accessed.is at (touches m ready i)))

-- token 0 gives the guest's home, any other what its last ADD gave
recall_zero : (h : List Event) (g t x : ℕ) (r : Right) → t ≡ 0 → recall h g t ≡ space x r → home_in h g ≡ x
unfolding recall
recall_zero h g t x r z e =
    let q : space (home_in h g) Write ≡ space x r = sym (yes! _ _ (eq-eqb t 0 z)) ∙ e in cc

recall_token : (h : List Event) (g t x : ℕ) (r : Right) → t ≢ 0 → recall h g t ≡ space x r → token_in h g t ≡ space x r
unfolding recall
recall_token h g t x r z e =
    choose_elim (λ y. y ≡ space x r → token_in h g t ≡ space x r) (malformed t) misformed (token_in h g t)
    (λ _ f. absurd (let o : ◌≡◌ {A = ℕ} 0 1 = cc in omega arith)) (λ _ f. f)
    (sym (no! _ _ (ne_eqb t 0 z)) ∙ e)

basis : (m : Machine) (i : Issue) (h : List Event) → Ready m → Recorded m.tables h → (id : ℕ) → Reaches m i id → Ground h i id
unfolding step target given
basis m i h ready rec id reach = record { register = r; through = reach.through; way = go (ℕ_discrete (used_in h i.call.caller r) 0) }
  where
    r : ℕ
    r = reach.register

    g : ℕ
    g = i.call.caller.guest

    used : Used m i (class_of i.call.operation).moves r
    used =
        let done = done_granted m.tables (length m.scratch) i.call (length i.buffer) reach.done in
        used_by m ready i (class_of i.call.operation).moves r reach.through
        (performed_moved m.tables i.call.caller i.call.operation (length i.buffer) (decision m i) done.caller done.arguments done.performed)

    not_zero : id ≢ 0
    not_zero z = omega (arith, reach.live, reach.space)

    told : recall h g (used_in h i.call.caller r) ≡ space id used.right
    told =
        let says = agreeing m.tables h ready.sound rec.remembers in
        rw (says.used i.call.caller r used.caller used.small)
        (says.tokens g _ used.caller ∙ ap (given m.tables) used.reached ∙ ap (λ x. space x used.right) (reaches_one m ready i _ id used.reaches reach))

    entry : TokenDid h (owner_in h id) g (used_in h i.call.caller r) id used.right → ByEntry h i.call.operation g (used_in h i.call.caller r) id
    entry d = record {
      right = used.right;
      did = d.did;
      last = d.last;
      write = used.write;
      owner = owner_in h id;
      owns = owner_did h id (owner_in h id) refl d.owner;
      basis = d.basis;
    }

    go : Dec (used_in h i.call.caller r ≡ 0) → ((used_in h i.call.caller r ≡ 0) × Did h (Deed.enrolled g id))
        ⊎ ((used_in h i.call.caller r ≡ 0 → ⊥) × ByEntry h i.call.operation g (used_in h i.call.caller r) id)
    go (yes z) = inl (z, home_did h g id (recall_zero h g _ id used.right z told) not_zero)
    go (no z) = inr (z, entry (token_did h rec.proper g _ id used.right (recall_token h g _ id used.right z told)))

pub grounded : Grounded
grounded F scratch calls next id ready reach =
    let m : Machine = record { tables = empty_tables F 1; scratch = scratch } in
    basis (after_run m calls) next (recorded [] m calls) (ready_run calls m ready) (recorded_all F scratch calls ready) id reach
