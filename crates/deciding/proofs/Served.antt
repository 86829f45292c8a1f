-- From the contract of one call to that of any call as a value. Assumes nothing.
use Prim.Native.Nat.{ℕ}
use mathlib.Core.List.{List}
use mathlib.Core.Path.{◌≡◌, ap, ap₂, sym, ◌∙◌}
use lib.ListN.{length}
use Rattle.model.specs.declared.Answer.{Answer}
use Rattle.model.specs.declared.Call.{Call}
use Rattle.model.specs.declared.Caller.{Caller}
use Rattle.model.specs.declared.Operation.{Operation}
use Rattle.model.specs.declared.Reply.{Reply}
use Rattle.model.specs.declared.State.{State}
use Rattle.model.specs.Calls.{judge}
use Rattle.model.specs.Decision.{after}
use Rattle.model.specs.Leaves.{scratch_judged, buffer_judged}
use Rattle.model.specs.Replies.{replied, reply, call_of, Carried}
use Rattle.model.specs.Step.{scratch_after}
use Rattle.deciding.specs.Served.{Served}
use Rattle.deciding.proofs.Touches.{touch, LeavesTables, LeavesScratch, LeavesBuffer, Unmoving, tables_kept, scratch_kept, buffer_kept, bufferless, any_length}

-- by what the call touches
module _ (s : State) (c : Caller) (k : Operation) (m b : List ℕ) where
  replied_kept : (n : ℕ) (a : Answer) → LeavesTables (touch k) → a ≡ (judge s (call_of c k) n).answer → reply a s ≡ replied s (judge s (call_of c k) n)
  unfolding replied
  replied_kept n a l e = ap₂ (λ x t. reply x t) e (sym (tables_kept s c k n l))

  -- tables alone
  pub still : Unmoving (touch k) → LeavesScratch (touch k) → LeavesBuffer (touch k) → (r : Reply) → r ≡ replied s (judge s (call_of c k) 0)
      → Served s (call_of c k) r m b m b
  still u ls lb r e = record {
    reply = e ∙ ap (λ d. replied s d) (sym (any_length s c k (length b) u));
    scratch = sym (scratch_kept s c k m b ls);
    buffer = sym (buffer_kept s c k m b lb);
  }

  -- nothing changed, an answer alone
  pub asked : Unmoving (touch k) → LeavesTables (touch k) → LeavesScratch (touch k) → LeavesBuffer (touch k) → (a : Answer)
      → a ≡ (judge s (call_of c k) 0).answer → Served s (call_of c k) (reply a s) m b m b
  asked u lt ls lb a e = still u ls lb (reply a s) (replied_kept 0 a lt e)

  -- tables and frames
  pub cleared : Unmoving (touch k) → LeavesBuffer (touch k) → (r : Reply) (m' : List ℕ) → Carried s (judge s (call_of c k) 0) r m m'
      → Served s (call_of c k) r m b m' b
  unfolding scratch_judged
  cleared u lb r m' e = record {
    reply = e.reply ∙ ap (λ d. replied s d) (sym (any_length s c k (length b) u));
    scratch = e.scratch ∙ bufferless s c k 0 m _ b u ∙ ap (λ d. scratch_after (after s d) d.effect m b) (sym (any_length s c k (length b) u));
    buffer = sym (buffer_kept s c k m b lb);
  }

  -- bytes moved, tables as they were
  pub fetched : LeavesTables (touch k) → LeavesScratch (touch k) → (a : Answer) (b' : List ℕ) → a ≡ (judge s (call_of c k) (length b)).answer
      → b' ≡ buffer_judged s (call_of c k) m b → Served s (call_of c k) (reply a s) m b m b'
  fetched lt ls a b' e f = record { reply = replied_kept (length b) a lt e; scratch = sym (scratch_kept s c k m b ls); buffer = f }

  pub stored : LeavesTables (touch k) → LeavesBuffer (touch k) → (a : Answer) (m' : List ℕ) → a ≡ (judge s (call_of c k) (length b)).answer
      → m' ≡ scratch_judged s (call_of c k) m b → Served s (call_of c k) (reply a s) m b m' b
  stored lt lb a m' e f = record { reply = replied_kept (length b) a lt e; scratch = f; buffer = sym (buffer_kept s c k m b lb) }

-- the same of a call whose operation is known
module _ (s : State) (k : Call) (m b : List ℕ) (o : Operation) (is : k.operation ≡ o) where
  pub still_as : Unmoving (touch o) → LeavesScratch (touch o) → LeavesBuffer (touch o) → (r : Reply) → r ≡ replied s (judge s (call_of k.caller o) 0) → Served s k r m b m b
  still_as u ls lb r e = rw is (still s k.caller o m b u ls lb r e)

  pub asked_as : Unmoving (touch o) → LeavesTables (touch o) → LeavesScratch (touch o) → LeavesBuffer (touch o) → (a : Answer)
      → a ≡ (judge s (call_of k.caller o) 0).answer → Served s k (reply a s) m b m b
  asked_as u lt ls lb a e = rw is (asked s k.caller o m b u lt ls lb a e)

  pub cleared_as : Unmoving (touch o) → LeavesBuffer (touch o) → (r : Reply) (m' : List ℕ) → Carried s (judge s (call_of k.caller o) 0) r m m' → Served s k r m b m' b
  cleared_as u lb r m' e = rw is (cleared s k.caller o m b u lb r m' e)

  pub fetched_as : LeavesTables (touch o) → LeavesScratch (touch o) → (a : Answer) (b' : List ℕ) → a ≡ (judge s (call_of k.caller o) (length b)).answer
      → b' ≡ buffer_judged s (call_of k.caller o) m b → Served s k (reply a s) m b m b'
  fetched_as lt ls a b' e f = rw is (fetched s k.caller o m b lt ls a b' e f)

  pub stored_as : LeavesTables (touch o) → LeavesBuffer (touch o) → (a : Answer) (m' : List ℕ) → a ≡ (judge s (call_of k.caller o) (length b)).answer
      → m' ≡ scratch_judged s (call_of k.caller o) m b → Served s k (reply a s) m b m' b
  stored_as lt lb a m' e f = rw is (stored s k.caller o m b lt lb a m' e f)
