-- The element stands in its table; what was stored is the model's change. Assumes nothing.
use Prim.Native.Nat.{ℕ, ◌≤◌, ◌<◌}
use mathlib.Core.Bool.{Bool, true, false}
use mathlib.Core.Path.{◌≡◌, refl, sym, ap, ap₂, ◌∙◌}
use Rattle.model.specs.declared.Answer.{Answer}
use Rattle.model.specs.declared.Answer.TheVariants.{BadCaller, Done}
use Rattle.model.specs.declared.Cell.{Cell}
use Rattle.model.specs.declared.Entry.{Entry}
use Rattle.model.specs.declared.Reply.{Reply}
use Rattle.model.specs.declared.State.{State}
use Rattle.model.specs.Changes.{applied}
use Rattle.model.specs.Decision.{Decision, refuse}
use Rattle.model.specs.declared.Call.{Call}
use Rattle.model.specs.declared.Caller.{Caller}
use Rattle.model.specs.declared.Operation.{Operation}
use Rattle.model.specs.Calls.{enrols, judge}
use Rattle.model.specs.Replies.{reply, replied, call_of}
use Rattle.model.specs.SoundTest.{sound}
use Rattle.views.specs.declared.View.{View}
use Rattle.asks.specs.Asks.{asks_by}
use Rattle.views.specs.Views.{view_of}
use Rattle.views.proofs.Judged.{judged_bad}
use Rattle.edits.specs.declared.Edit.{Edit}
use Rattle.edits.specs.declared.Edit.TheVariants as edit
use Rattle.edits.specs.declared.Edited.{Edited}
use Rattle.edits.specs.declared.Granted.{Granted}
use Rattle.edits.specs.Edits.{change_of, edited, Fits, Decides, Decided, Seen}
use Rattle.sound.specs.declared.Sound.{Sound}
use Rattle.sound.proofs.Kept.{replied_sound}
use Rattle.std.specs.Prelude.{Result, Ok, Err, IsErrAnd}

module _ (x : Edit) (f : Fits x) where
  pub entry_inside : (k : ℕ) (y : Entry) → x ≡ edit.Entry k y → k < 240
  unfolding Fits
  entry_inside k y e = rw e at f

  pub cpu_inside : (k r v : ℕ) → x ≡ edit.Register k r v → k < 8
  unfolding Fits
  cpu_inside k r v e = (rw e at f).0

  pub register_inside : (k r v : ℕ) → x ≡ edit.Register k r v → r < 16
  unfolding Fits
  register_inside k r v e = (rw e at f).1

  pub mode_inside : (k : ℕ) (m : Bool) → x ≡ edit.Mode k m → k < 8
  unfolding Fits
  mode_inside k m e = rw e at f

  pub key_inside : (k y : ℕ) → x ≡ edit.Key k y → k < 8
  unfolding Fits
  key_inside k y e = rw e at f

  pub cell_inside : (k : ℕ) (y : Cell) → x ≡ edit.Cell k y → k < 512
  unfolding Fits
  cell_inside k y e = rw e at f

pub ruleset insides = (entry_inside, cpu_inside, register_inside, mode_inside, key_inside, cell_inside)

-- what the code has stored of an edit that it has found to be y
pub stored_by : (s t : State) (x y : Edit) → x ≡ y → t ≡ applied s (change_of y) → t ≡ applied s (change_of x)
stored_by s t x y q p = p ∙ ap (λ z. applied s (change_of z)) (sym q)

-- a refusal; and a call that is granted
module _ (v : View) (o : Operation) where
  abbrev Judged : (Decision → Type 0) → Type 0
  Judged P = (s : State) (c : Caller) → sound s ≡ true → v ≡ view_of s (asks_by c.guest o) → P (judge s (call_of c o) 0)

  pub decided_refused : (a : Answer) → Judged (λ d. d ≡ refuse a) → Decided v o (edited (Err a))
  unfolding Fits change_of
  decided_refused a h = record { fits = tt; decides = λ s c ok q. rw (h s c ok q) (record { answer = refl; change = refl }) }

  -- check 2, of every call but ENROL
  pub decided_bad : (a : Answer) → enrols o ≡ false → a ≡ BadCaller → 8 ≤ v.place → Decided v o (edited (Err a))
  decided_bad a plain is g = decided_refused a (λ s c ok e. judged_bad s c o 0 v plain e g ∙ ap refuse (sym is))

  pub decided_done : (x : Granted) (y : Edit) → x ≡ record { value = 0; edit = y } → Fits y → Judged (Decides (record { answer = Done 0; edit = y })) → Decided v o (edited (Ok x))
  decided_done x y e f h = rw e (record { fits = f; decides = h })

  -- for search: what a `?` hands on
  pub decided_err : (a : Answer) (r : Result Granted Answer) → IsErrAnd r (λ e. e ≡ a) → Decided v o (edited (Err a)) → Decided v o (edited r)
  decided_err a (Ok _) q d = absurd q
  decided_err a (Err e) q d = rw q d

pub carried_reply : (s : State) (e : Edited) (d : Decision) (r : Reply) → Decides e d → r ≡ reply e.answer (applied s (change_of e.edit)) → r ≡ replied s d
unfolding replied
carried_reply s e d r h p = p ∙ ap₂ (λ a c. reply a (applied s c)) h.answer h.change

-- a call on a sound state, decided on what it sees of it: its reply, the state after it, and its answer
module _ (s : State) (c : Caller) (o : Operation) (v : View) (x : Edited) (ok : sound s ≡ true) (q : v ≡ view_of s (asks_by c.guest o)) (d : Decided v o x) where
  pub seen_carried : (r : Reply) → r ≡ reply x.answer (applied s (change_of x.edit)) → r ≡ replied s (judge s (call_of c o) 0)
  seen_carried r e = carried_reply s x (judge s (call_of c o) 0) r (d.decides s c ok q) e

  pub seen_sound : (r : Reply) → r ≡ reply x.answer (applied s (change_of x.edit)) → sound r.state ≡ true
  seen_sound r e = replied_sound s (call_of c o) 0 r ok (seen_carried r e)

  pub seen_told : x.answer ≡ (judge s (call_of c o) 0).answer
  seen_told = (d.decides s c ok q).answer

-- what it came to was decided on that
pub seen_decided : (before : Sound) (k : Call) (v : View) (x : Edited) (a : Answer) → v ≡ view_of before.state.now (asks_by k.caller.guest k.operation) → Decided v k.operation x → a ≡ x.answer
    → Seen before k a
seen_decided before k v x a q d e = record { edit = x.edit; decided = rw (← q, e) d }
