-- A refused call changes nothing, every answer is one that its call's row lists, and check 1 comes first. Assumes nothing.
use Prim.Native.Nat.{ℕ}
use mathlib.Core.Bool.{true, false}
use mathlib.Core.Logic.{◌≢◌}
use mathlib.Core.Path.{◌≡◌, refl, sym, ap, subst, ◌∙◌}
use lib.ListN.{length}
use borrow.Author.Tests.{eq-eqb}
use Rattle.lists.specs.Choice.{either}
use Rattle.lists.proofs.Choice.{true_false}
use Rattle.model.specs.declared.Answer.{Answer}
use Rattle.model.specs.declared.Answer.TheVariants.{Done, Unsound, BadCaller, Limit, NameTaken, NoSpace, NotOwner, NoSharing, AllowanceUsed, SlotsUsed, NoRun, NoIdentification, NotPermitted, ListFull, AletSpecification, AlenTranslation, AddressingCapability, Addressing, Protection, SpecialOperation, PrimarySpace, LineNotRead, KeyProtection, RoomTooSmall, NotWritten}
use Rattle.model.specs.declared.Call.{Call}
use Rattle.model.specs.declared.Caller.{Caller}
use Rattle.model.specs.declared.Operation.{Operation}
use Rattle.model.specs.declared.Operation.TheVariants.{Enrol, Create, Destroy, Permit, Isolate, Query, Add, Remove, Load, Mode, Fetch, Store, Reset, Key, Block}
use Rattle.model.specs.declared.State.{State}
use Rattle.model.specs.Answers.{names_argument, number, value}
use Rattle.model.specs.Calls.{decide, ready}
use Rattle.model.specs.Decision.{Decision, refuse, check}
use Rattle.model.specs.Granted.{Performed, Granted}
use Rattle.model.specs.Step.{Machine, Issue, outcome, step, scratch_after, buffer_after}
use Rattle.model.specs.Verdict.{row, listed, Verdict, refused, granted}
use Rattle.model.proofs.Answers.{argument_named}
use Rattle.model.proofs.Verdict.{verdict}

-- a done call's answer
pub performed_number : (s : State) (c : Caller) (k : Operation) (n : ℕ) (d : Decision) → Performed s c k n d → number d.answer ≡ 0
unfolding Performed number
performed_number s c (Enrol x) n d p = rw p.is refl
performed_number s c (Create name pages) n d p = rw p.made.is refl
performed_number s c (Destroy id) n d p = rw p.is refl
performed_number s c (Permit id guest right) n d p = rw p.is refl
performed_number s c (Isolate id) n d p = rw p.is refl
performed_number s c (Query owner name) n d p = rw p.is refl
performed_number s c (Add id right) n d p = rw p.is refl
performed_number s c (Remove token) n d p = rw p.is refl
performed_number s c (Load register value) n d p = rw p.is refl
performed_number s c (Mode m) n d p = rw p.is refl
performed_number s c (Fetch register address) n d p = rw p.is refl
performed_number s c (Store register address) n d p = rw p.is refl
performed_number s c Reset n d p = rw p.is refl
performed_number s c (Key key) n d p = rw p.is refl
performed_number s c (Block id address key mark) n d p = rw p.is refl

module _ (s : State) (m : ℕ) (k : Call) (n : ℕ) where
  -- each call gives only the answers that its row lists
  pub answer_listed : listed (number (decide s m k n).answer) (row k.operation) ≡ true
  unfolding row listed either
  answer_listed = go (verdict s m k n)
    where
      go : Verdict (row k.operation) (Granted s m k n) (decide s m k n) → listed (number (decide s m k n).answer) (row k.operation) ≡ true
      go (refused r) = subst (λ (d : Decision). listed (number d.answer) (row k.operation) ≡ true) (sym r.is) r.listed
      go (granted g) = rw (performed_number s k.caller k.operation n (decide s m k n) g.performed) refl

  -- answer 0 comes with all that it implies, any other is a refusal
  pub done_granted : number (decide s m k n).answer ≡ 0 → Granted s m k n (decide s m k n)
  done_granted e = go (verdict s m k n)
    where
      go : Verdict (row k.operation) (Granted s m k n) (decide s m k n) → Granted s m k n (decide s m k n)
      go (refused r) = true_false (eq-eqb (number r.answer) 0 (ap (λ (d : Decision). number d.answer) (sym r.is) ∙ e)) r.not_done
      go (granted g) = g

  pub refused_decision : number (decide s m k n).answer ≢ 0 → decide s m k n ≡ refuse (decide s m k n).answer
  refused_decision e = go (verdict s m k n)
    where
      go : Verdict (row k.operation) (Granted s m k n) (decide s m k n) → decide s m k n ≡ refuse (decide s m k n).answer
      go (refused r) = r.is ∙ ap (λ (d : Decision). refuse d.answer) (sym r.is)
      go (granted g) = absurd (e (performed_number s k.caller k.operation n (decide s m k n) g.performed))

  -- on an unsound state, or with scratch of a wrong length, every call answers 1
  pub unready : ready s m ≡ false → decide s m k n ≡ refuse Unsound
  unfolding decide check
  unready e = rw e

-- a refusal's value, unless it names an argument
pub refused_value : (a : Answer) → number a ≢ 0 → names_argument (number a) ≡ false → value a ≡ 0
unfolding number value
refused_value (Done v) e f = absurd (e refl)
refused_value Unsound e f = refl
refused_value BadCaller e f = refl
refused_value (Limit k p) e f = true_false (argument_named k) f
refused_value NameTaken e f = refl
refused_value NoSpace e f = refl
refused_value NotOwner e f = refl
refused_value NoSharing e f = refl
refused_value AllowanceUsed e f = refl
refused_value SlotsUsed e f = refl
refused_value NoRun e f = refl
refused_value NoIdentification e f = refl
refused_value NotPermitted e f = refl
refused_value ListFull e f = refl
refused_value AletSpecification e f = refl
refused_value AlenTranslation e f = refl
refused_value AddressingCapability e f = refl
refused_value Addressing e f = refl
refused_value Protection e f = refl
refused_value SpecialOperation e f = refl
refused_value PrimarySpace e f = refl
refused_value LineNotRead e f = refl
refused_value KeyProtection e f = refl
refused_value RoomTooSmall e f = refl
refused_value NotWritten e f = refl

-- "Every refusal of a call, later numbers included, changes no table, no scratch byte and no caller's buffer"
pub record Unchanged (m : Machine) (i : Issue) : Type 0 where
  pub machine : (step m i).machine ≡ m
  pub buffer : (step m i).buffer ≡ i.buffer
  pub value : names_argument (number (step m i).answer) ≡ false → value (step m i).answer ≡ 0

pub refused_unchanged : (m : Machine) (i : Issue) → number (step m i).answer ≢ 0 → Unchanged m i
unfolding step scratch_after buffer_after
refused_unchanged m i e =
    let q = refused_decision m.tables (length m.scratch) i.call (length i.buffer) e in
    record {
      machine = ap (λ (d : Decision). (outcome m i d).machine) q;
      buffer = ap (λ (d : Decision). (outcome m i d).buffer) q;
      value = refused_value (step m i).answer e;
    }
