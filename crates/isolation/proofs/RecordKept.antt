-- After every list of calls from a fresh state the memory says what the tables say, and every recorded call was rightful.
-- Assumes nothing.
use Prim.Native.Nat.{ℕ, zero, suc, ◌<◌}
use mathlib.Core.Bool.{true}
use mathlib.Core.List.{List, [], ◌∷◌}
use mathlib.Core.Logic.{◌≢◌, inl, inr, ⊎_elim}
use mathlib.Core.Path.{◌≡◌, refl, sym, ap, ◌∙◌}
use native.Mathlib.Omega.{arith}
use lib.ListN.{length, get_or, get_or-replicate}
use borrow.Author.Tests.{eqb-true, eqb-false, leb-true}
use Rattle.lists.specs.Choice.{choose}
use Rattle.lists.proofs.Choice.{both_left, either_to}
use Rattle.model.specs.declared.Call.{Call}
use Rattle.model.specs.declared.Caller.{Caller}
use Rattle.model.specs.declared.Cpu.{Cpu}
use Rattle.model.specs.declared.Entry.{Entry}
use Rattle.model.specs.declared.Operation.{Operation}
use Rattle.model.specs.declared.Operation.TheVariants.{Enrol, Create, Destroy, Permit, Isolate, Query, Add, Remove, Load, Mode, Fetch, Store, Reset, Key, Block}
use Rattle.model.specs.declared.Space.{Space}
use Rattle.model.specs.declared.State.{State}
use Rattle.model.specs.Answers.{number, value}
use Rattle.model.specs.Arguments.{arguments}
use Rattle.model.specs.Calls.{entitled, enrols, good_caller}
use Rattle.model.specs.Decision.{Decision, after}
use Rattle.model.specs.Fresh.{empty_tables}
use Rattle.model.specs.Granted.{Performed, AllFit, Granted}
use Rattle.model.specs.Searches.{slot_of}
use Rattle.model.specs.Sound.{Live, IsGuest, Sound}
use Rattle.model.specs.Step.{Machine, Ready, Issue, decision, step, after_run}
use Rattle.model.specs.Tables.{no_space, no_cpu, zero_cpu, unused_entry, space_at, guest_place, grant_at, entry_place}
use Rattle.model.specs.Tokens.{entry_number}
use Rattle.model.specs.Verdict.{row, Verdict, refused, granted}
use Rattle.model.proofs.Refusals.{performed_number}
use Rattle.model.proofs.Searches.{enrolled_guest, live_slot, slot_found}
use Rattle.model.proofs.Sound.{may_enrol_lem, ready_kept}
use Rattle.model.proofs.Tokens.{formed}
use Rattle.model.proofs.Verdict.{verdict}
use Rattle.isolation.specs.History.{Event, Deed, nothing, deed_done, deed_of, deed, event_of, recorded}
use Rattle.isolation.specs.Recall.{owner_by, owner_in, home_by, home_in, grant_by, grant_in, token_by, token_in, mode_by, mode_in, load_by, load_in}
use Rattle.isolation.proofs.Record.{Memory, memory, told, Remembers, Rightful, Proper, Recorded, gives_unused}
use Rattle.isolation.proofs.RecordMade.{enrol_told, create_told}
use Rattle.isolation.proofs.RecordSet.{load_told, mode_told, key_told, block_told, permit_told, add_told, remove_told}
use Rattle.isolation.proofs.RecordWithdrawn.{destroy_told, isolate_told, reset_told}

module _ (s : State) (m : Memory) (ok : Sound s) (rem : Remembers s m) (c : Caller) where
  -- every done call
  performed_told : (k : Operation) (n : ℕ) (d : Decision) → good_caller s c k ≡ true → AllFit (arguments s.guests c k n) → Performed s c k n d
      → Remembers (after s d) (told (deed_done c k (value d.answer)) m)
  unfolding good_caller enrols choose arguments AllFit Performed deed_done owner_by home_by grant_by token_by mode_by load_by
  performed_told (Enrol x) n d e fit p = enrol_told s m ok rem c.guest x d (may_enrol_lem s.guests c.guest e).1 p
  performed_told (Create name pages) n d e fit p = create_told s m ok rem c.guest name pages d e p
  performed_told (Destroy id) n d e fit p = destroy_told s m ok rem c.guest id d p
  performed_told (Permit id guest right) n d e fit p = permit_told s m ok rem c.guest id guest right d (enrolled_guest s.guests guest (both_left _ _ fit.0)) p
  performed_told (Isolate id) n d e fit p = isolate_told s m ok rem c.guest id d p
  performed_told (Query owner name) n d e fit p = rw p.is rem
  performed_told (Add id right) n d e fit p = add_told s m ok rem c.guest id right d e p
  performed_told (Remove token) n d e fit p = remove_told s m ok rem c.guest token d (enrolled_guest s.guests c.guest e) p
  performed_told (Load register value) n d e fit p = load_told s m ok rem c register value d (enrolled_guest s.guests c.guest e) (leb-true register 15 fit.0) p
  performed_told (Mode k) n d e fit p = mode_told s m ok rem c k d (enrolled_guest s.guests c.guest e) p
  performed_told (Fetch register address) n d e fit p = rw p.is rem
  performed_told (Store register address) n d e fit p = rw p.is rem
  performed_told Reset n d e fit p = reset_told s m ok rem c.guest d (enrolled_guest s.guests c.guest e) p
  performed_told (Key key) n d e fit p = key_told s m ok rem c key d (enrolled_guest s.guests c.guest e) p
  performed_told (Block id address key mark) n d e fit p = block_told s m ok rem c.guest id address key mark d p

  -- a space that is found has the owner that the memory knows, and that is not 0
  owner_found : (i : ℕ) → slot_of s.spaces i < 32 → (m.owner i ≢ 0) × (m.owner i ≡ (space_at s.spaces (slot_of s.spaces i)).owner)
  owner_found i b =
      let f = slot_found s.spaces i b in
      let q : m.owner i ≡ (space_at s.spaces (slot_of s.spaces i)).owner = rw f.1 at (rem.owners (slot_of s.spaces i) f.0) in
      ((λ z. omega (arith, q, (enrolled_guest s.guests _ (ok.spaces.owner (slot_of s.spaces i) f.0)).low)), q)

  grant_found : (i : ℕ) → slot_of s.spaces i < 32 → IsGuest c.guest → m.grant i c.guest ≡ grant_at s.permits (slot_of s.spaces i) c.guest
  grant_found i b guest = let f = slot_found s.spaces i b in rw f.1 at (rem.grants (slot_of s.spaces i) c.guest f.0 guest)

  performed_rightful : (k : Operation) (n : ℕ) (d : Decision) → good_caller s c k ≡ true → Performed s c k n d → Rightful m (deed_done c k (value d.answer))
  unfolding good_caller enrols choose Performed deed_done value entitled
  performed_rightful (Enrol x) n d e p = rw p.is (record { guest = λ z. omega (arith, (may_enrol_lem s.guests c.guest e).0.low); above = rem.unowned })
  performed_rightful (Create name pages) n d e p = rw p.made.is (record { guest = λ z. omega (arith, (enrolled_guest s.guests c.guest e).low); above = rem.unowned })
  performed_rightful (Destroy id) n d e p = tt
  performed_rightful (Permit id guest right) n d e p = let f = owner_found id p.owning.slot in (f.0, f.1 ∙ p.owning.owner)
  performed_rightful (Isolate id) n d e p = tt
  performed_rightful (Query owner name) n d e p = tt
  performed_rightful (Add id right) n d e p =
      let f = owner_found id p.slot in
      (f.0, ⊎_elim (λ o. inl (f.1 ∙ eqb-true _ c.guest o)) (λ a. inr (rw (grant_found id p.slot (enrolled_guest s.guests c.guest e)) a)) (either_to _ _ p.right))
  performed_rightful (Remove token) n d e p = tt
  performed_rightful (Load register value) n d e p = tt
  performed_rightful (Mode k) n d e p = tt
  performed_rightful (Fetch register address) n d e p = tt
  performed_rightful (Store register address) n d e p = tt
  performed_rightful Reset n d e p = tt
  performed_rightful (Key key) n d e p = tt
  performed_rightful (Block id address key mark) n d e p = tt

-- one more event, by its deed
one_more : (s : State) (e : Event) (h : List Event) (d : Deed) → deed e ≡ d → Proper h → Remembers s (told d (memory h)) → Rightful (memory h) d → Recorded s (e ∷ h)
unfolding owner_in home_in grant_in token_in mode_in load_in
one_more s e h d q p r f = record { remembers = rw (← q) at r; proper = (rw q f, p) }

refused_deed : (k : Call) (n v : ℕ) → n ≢ 0 → deed_of k n v ≡ nothing
unfolding deed_of
refused_deed k zero v ne = absurd (ne refl)
refused_deed k (suc n) v ne = refl

-- every call
recorded_step : (m : Machine) (i : Issue) (h : List Event) → Ready m → Recorded m.tables h → Recorded (step m i).machine.tables (event_of m i ∷ h)
unfolding step deed_of owner_by home_by grant_by token_by mode_by load_by
recorded_step m i h ready rec = go (verdict m.tables (length m.scratch) i.call (length i.buffer))
  where
    s : State
    s = m.tables

    go : Verdict (row i.call.operation) (Granted s (length m.scratch) i.call (length i.buffer)) (decision m i) → Recorded (after m.tables (decision m i)) (event_of m i ∷ h)
    go (refused r) =
        let ne : number (decision m i).answer ≢ 0 = rw r.is (eqb-false _ 0 r.not_done) in
        one_more (after m.tables (decision m i)) (event_of m i) h nothing (refused_deed i.call _ _ ne) rec.proper (rw r.is rec.remembers) tt
    go (granted g) =
        let c = i.call.caller in
        let k = i.call.operation in
        let n = length i.buffer in
        one_more (after m.tables (decision m i)) (event_of m i) h (deed_done c k (value (decision m i).answer))
        (ap (λ a. deed_of i.call a (value (decision m i).answer)) (performed_number s c k n (decision m i) g.performed)) rec.proper
        (performed_told s (memory h) ready.sound rec.remembers c k n (decision m i) g.caller g.arguments g.performed)
        (performed_rightful s (memory h) ready.sound rec.remembers c k n (decision m i) g.caller g.performed)

-- a fresh state and no record
recorded_fresh : (F : ℕ) → Sound (empty_tables F 1) → Recorded (empty_tables F 1) []
unfolding owner_in home_in grant_in token_in mode_in load_in
recorded_fresh F ok =
    let s = empty_tables F 1 in
    record {
      remembers = record {
        owners = λ u l. absurd (none u l);
        homes = λ u l. absurd (none u l);
        grants = λ u g l. absurd (none u l);
        unowned = λ x b. refl;
        unpermitted = λ x g b. refl;
        tokens = λ g t i z f.
            let e = (formed t z f).entry in
            sym (gives_unused s.spaces _ _ (ap (λ (y : Entry). y.standing) (get_or-replicate 240 (entry_place g (entry_number t)) unused_entry unused_entry (omega arith))));
        modes = λ c i. sym (ap (λ (y : Cpu). y.mode) (idle c.guest i));
        loads = λ c r i b. sym (ap (λ (y : Cpu). get_or y.registers r 0) (idle c.guest i) ∙ get_or-replicate 16 r 0 0 b);
      };
      proper = tt;
    }
  where
    none : (u : ℕ) → Live (empty_tables F 1).spaces u → ⊥
    none u l =
        let b = live_slot (empty_tables F 1).spaces u 32 ok.spaces.len l in
        omega (arith, ap (λ (y : Space). y.id) (get_or-replicate 32 u no_space no_space b))

    idle : (g : ℕ) → IsGuest g → get_or (empty_tables F 1).cpus (guest_place g) no_cpu ≡ zero_cpu
    idle g i = get_or-replicate 8 (guest_place g) zero_cpu no_cpu (omega arith)

-- every list
pub ready_run : (calls : List Issue) (m : Machine) → Ready m → Ready (after_run m calls)
unfolding after_run
ready_run [] m ready = ready
ready_run (i ∷ is) m ready = ready_run is (step m i).machine (ready_kept m i ready)

recorded_run : (calls : List Issue) (m : Machine) (h : List Event) → Ready m → Recorded m.tables h → Recorded (after_run m calls).tables (recorded h m calls)
unfolding after_run recorded
recorded_run [] m h ready rec = rec
recorded_run (i ∷ is) m h ready rec = recorded_run is (step m i).machine (event_of m i ∷ h) (ready_kept m i ready) (recorded_step m i h ready rec)

pub recorded_all : (F : ℕ) (scratch : List ℕ) (calls : List Issue) → Ready (record { tables = empty_tables F 1; scratch = scratch })
    → Recorded (after_run (record { tables = empty_tables F 1; scratch = scratch }) calls).tables (recorded [] (record { tables = empty_tables F 1; scratch = scratch }) calls)
recorded_all F scratch calls ready = recorded_run calls (record { tables = empty_tables F 1; scratch = scratch }) [] ready (recorded_fresh F ready.sound)
