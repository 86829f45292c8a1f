-- A call, carried out: by check 1 it is refused, or served, and either way it is the model's step. Assumes nothing.
use Prim.Native.Nat.{ℕ, ◌*◌}
use mathlib.Core.Bool.{true, false}
use mathlib.Core.List.{List}
use mathlib.Core.Path.{◌≡◌, refl, sym, ap, ◌∙◌}
use lib.ListN.{length, take}
use Rattle.lists.specs.Bytes.{over}
use Rattle.lists.proofs.Choice.{yes! }
use Rattle.lists.proofs.Parts.{over_same}
use Rattle.model.specs.declared.Answer.TheVariants.{Unsound}
use Rattle.model.specs.declared.Call.{Call}
use Rattle.model.specs.declared.Reply.{Reply}
use Rattle.model.specs.declared.Request.TheVariants.{Call as Asked}
use Rattle.model.specs.declared.State.{State}
use Rattle.model.specs.Calls.{ready, judge, decide}
use Rattle.model.specs.Decision.{Decision}
use Rattle.model.specs.Leaves.{scratch_judged, buffer_judged}
use Rattle.model.specs.Promise.{step_of}
use Rattle.model.specs.Replies.{replied}
use Rattle.model.specs.Session.{turn, machine_of, buffer_for, issue_of, call_turn, request_turn}
use Rattle.model.specs.Step.{outcome, step, scratch_after, buffer_after}
use Rattle.model.proofs.Refusals.{unready}
use Rattle.model.proofs.Rules.{check_yes}
use Rattle.model.proofs.Sound.{ready_to, ready_kept, length-scratch_after, length-buffer_after}
use Rattle.deciding.specs.Served.{Served}
use Rattle.ready.specs.Usable.{usable}
use Rattle.turns.specs.declared.Host.{Host}
use Rattle.turns.specs.declared.Outcome.{Outcome}
use Rattle.turns.specs.Taken.{session_of, outcome_of, Taken}
use Rattle.turns.proofs.Usable.{usable_ready, usable_back}

-- what a served call has come to is the model's step
module _ (s : State) (k : Call) (m b m' b' : List ℕ) (r : Reply) (d : Served s k r m b m' b') where
  pub served_scratch : length m' ≡ length m
  unfolding scratch_judged
  served_scratch = ap length d.scratch ∙ length-scratch_after _ (judge s k (length b)).effect m b

  pub served_buffer : length b' ≡ length b
  unfolding buffer_judged
  served_buffer = ap length d.buffer ∙ length-buffer_after _ (judge s k (length b)).effect m b

  served_step : ready s (length m) ≡ true → step_of s m k b ≡ record { answer = r.answer; machine = record { tables = r.state; scratch = m' }; buffer = b' }
  unfolding step replied scratch_judged buffer_judged decide
  served_step e =
      rw (d.reply, d.scratch, d.buffer)
      (ap (λ (x : Decision). outcome (record { tables = s; scratch = m }) (record { call = k; buffer = b }) x) (check_yes Unsound (judge s k (length b)) e))

-- The host after a served call.
abbrev pub after : Host → Reply → Host
after h r = record { begun = h.begun; ready = h.ready; state = r.state }

-- a call with the data d, where a FRAMES has been done, takes a step of the model
module _ (h : Host) (m d : List ℕ) (k : Call) (size : ℕ) (b : h.begun ≡ true) (e : h.ready ≡ usable h.state (length m)) where
  abbrev room : ℕ
  room = h.state.frames * 4096

  abbrev given : List ℕ
  given = buffer_for k.operation size d

  call_turn_lem : request_turn (session_of h m) (Asked k size) d ≡ call_turn (session_of h m) (Asked k size) (step (machine_of (session_of h m)) (issue_of k size d))
  unfolding request_turn
  call_turn_lem = yes! _ _ b

  -- check 1 does not hold
  unready_turn : h.ready ≡ false → request_turn (session_of h m) (Asked k size) d ≡ turn (Asked k size) Unsound given (session_of h m)
  unfolding step scratch_after buffer_after
  unready_turn f =
      let i = issue_of k size d in
      call_turn_lem
      ∙ ap (λ (x : Decision). call_turn (session_of h m) (Asked k size) (outcome (machine_of (session_of h m)) i x))
      (unready h.state (length (take room m)) k (length i.buffer) (sym (usable_ready h.state m) ∙ sym e ∙ f))
      ∙ ap (λ x. turn (Asked k size) Unsound i.buffer (session_of h x)) (over_same room m)

  pub unready_taken : (o : Outcome) (b' : List ℕ) → h.ready ≡ false → outcome_of o b' ≡ record { request = Asked k size; answer = Unsound; moved = given }
      → Taken (request_turn (session_of h m) (Asked k size) d) o b' h m
  unready_taken o b' f q = rw (unready_turn f) (record { session = refl; outcome = q; ready = e })

  -- check 1 holds
  module _ (r : Reply) (m' b' : List ℕ) (t : h.ready ≡ true) (v : Served h.state k r (take room m) given m' b') where
    stepped : step (machine_of (session_of h m)) (issue_of k size d) ≡ record { answer = r.answer; machine = record { tables = r.state; scratch = m' }; buffer = b' }
    stepped = served_step h.state k (take room m) given m' b' r v (sym (usable_ready h.state m) ∙ sym e ∙ t)

    ready_turn : request_turn (session_of h m) (Asked k size) d ≡ turn (Asked k size) r.answer b' (record { begun = h.begun; tables = r.state; scratch = over m 0 m' })
    ready_turn = call_turn_lem ∙ ap (call_turn (session_of h m) (Asked k size)) stepped

    still_usable : usable r.state (length (over m 0 m')) ≡ true
    still_usable =
        let x = ready_to (machine_of (session_of h m)) (sym (usable_ready h.state m) ∙ sym e ∙ t) in
        usable_back r.state m m' (rw stepped at (ready_kept (machine_of (session_of h m)) (issue_of k size d) x))

    pub served_taken : (o : Outcome) (x : List ℕ) → outcome_of o x ≡ record { request = Asked k size; answer = r.answer; moved = b' }
        → Taken (request_turn (session_of h m) (Asked k size) d) o x (after h r) (over m 0 m')
    served_taken o x q = rw ready_turn (record { session = refl; outcome = q; ready = t ∙ sym still_usable })
