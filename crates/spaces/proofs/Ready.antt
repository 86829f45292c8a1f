-- From check 1 and what the inner layer gives to what each call promises. Assumes nothing.
use Prim.Native.Nat.{ℕ}
use mathlib.Core.Bool.{Bool, true, false}
use mathlib.Core.List.{List, []}
use mathlib.Core.Logic.{⊎_elim}
use mathlib.Core.Path.{◌≡◌, refl}
use lib.ListN.{length}
use Rattle.lists.proofs.Choice.{true_or_false}
use Rattle.model.specs.declared.Answer.{Answer}
use Rattle.model.specs.declared.Answer.TheVariants.{Unsound}
use Rattle.model.specs.declared.Call.{Call}
use Rattle.model.specs.declared.Caller.{Caller}
use Rattle.model.specs.declared.Operation.{Operation}
use Rattle.model.specs.declared.Reply.{Reply}
use Rattle.model.specs.declared.State.{State}
use Rattle.model.specs.Calls.{ready, judge}
use Rattle.model.specs.Leaves.{scratch_judged, buffer_judged}
use Rattle.sound.specs.declared.Sound.{Sound}
use Rattle.sound.specs.Answered.{Answered}
use Rattle.model.specs.Promise.{Promise, step_of}
use Rattle.model.specs.Replies.{reply, replied, call_of, Carried}
use Rattle.calls.proofs.Ready.{refuses, serves, serves_at}
use Rattle.deciding.proofs.Served.{still, cleared, asked, fetched, stored}
use Rattle.deciding.proofs.Touches.{touch, LeavesTables, LeavesScratch, LeavesBuffer, Unmoving}

-- check 1 refuses
pub refuses_with : (s : State) (k : Call) (m b : List ℕ) (x : Bool) (r : Reply) → x ≡ ready s (length m) → x ≡ false → r ≡ reply Unsound s
    → Promise (step_of s m k b) r.answer r.state m b
refuses_with s k m b x r e f q = rw q (refuses s k m b x e f)

-- what a call answers where it was lent, for the state that its caller owns
pub told : {p q x y : Sound} {s t : State} {k : Call} {a : Answer} → p ≡ x → q ≡ y → x.state.now ≡ s → y.state.now ≡ t → Answered p k a q → reply a t ≡ replied s (judge s k 0)
told e f g h d = rw (← h, ← g, ← f, ← e) d.reply

-- a call on the state alone, behind check 1
pub checks : (s : State) (c : Caller) (k : Operation) (m : List ℕ) (r : Reply) → Unmoving (touch k) → LeavesScratch (touch k) → LeavesBuffer (touch k)
    → (ready s (length m) ≡ false → r ≡ reply Unsound s) → (ready s (length m) ≡ true → reply r.answer r.state ≡ replied s (judge s (call_of c k) 0))
    → Promise (step_of s m (call_of c k) []) r.answer r.state m []
checks s c k m r u ls lb fails passes =
    ⊎_elim (λ t. serves s (call_of c k) m [] m [] r _ refl t (still s c k m [] u ls lb r (passes t))) (λ f. refuses_with s (call_of c k) m [] _ r refl f (fails f))
    (true_or_false (ready s (length m)))

-- check 1 passes: the single calls, by what each touches
module _ (s : State) (c : Caller) (k : Operation) (m : List ℕ) (x : Bool) where
  -- nothing: an answer alone
  pub asks : Unmoving (touch k) → LeavesTables (touch k) → LeavesScratch (touch k) → LeavesBuffer (touch k) → (a : Answer) → x ≡ ready s (length m) → x ≡ true
      → a ≡ (judge s (call_of c k) 0).answer → Promise (step_of s m (call_of c k) []) a s m []
  asks u lt ls lb a e t q = serves s (call_of c k) m [] m [] (reply a s) x e t (asked s c k m [] u lt ls lb a q)

  -- tables and frames; the state that the caller owns is what the call has left where it was lent
  pub clears : Unmoving (touch k) → LeavesBuffer (touch k) → (a : Answer) (t v : State) (m' : List ℕ) → x ≡ ready s (length m) → x ≡ true
      → Carried s (judge s (call_of c k) 0) (reply a v) m m' → v ≡ t → Promise (step_of s m (call_of c k) []) a t m' []
  clears u lb a t v m' e h q is = serves_at s (call_of c k) m [] m' [] a t v x e h (cleared s c k m [] u lb (reply a v) m' q) is

  -- bytes moved
  pub fetches : LeavesTables (touch k) → LeavesScratch (touch k) → (b b' : List ℕ) (a : Answer) → x ≡ ready s (length m) → x ≡ true
      → a ≡ (judge s (call_of c k) (length b)).answer → b' ≡ buffer_judged s (call_of c k) m b → Promise (step_of s m (call_of c k) b) a s m b'
  fetches lt ls b b' a e t q w = serves s (call_of c k) m b m b' (reply a s) x e t (fetched s c k m b lt ls a b' q w)

  pub stores : LeavesTables (touch k) → LeavesBuffer (touch k) → (b m' : List ℕ) (a : Answer) → x ≡ ready s (length m) → x ≡ true
      → a ≡ (judge s (call_of c k) (length b)).answer → m' ≡ scratch_judged s (call_of c k) m b → Promise (step_of s m (call_of c k) b) a s m' b
  stores lt lb b m' a e t q w = serves s (call_of c k) m b m' b (reply a s) x e t (stored s c k m b lt lb a m' q w)
