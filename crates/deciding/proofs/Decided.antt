-- From what one call decides on what it sees to what any call comes to. Assumes nothing.
use Prim.Native.Nat.{ℕ}
use mathlib.Core.List.{List}
use mathlib.Core.Path.{◌≡◌, refl, sym, ap}
use Rattle.std.specs.Prelude.{Result, Ok, Err}
use Rattle.model.specs.declared.Answer.{Answer}
use Rattle.model.specs.declared.Call.{Call}
use Rattle.model.specs.declared.Change.TheVariants.{IsolateSpace}
use Rattle.model.specs.declared.Operation.{Operation}
use Rattle.model.specs.declared.Operation.TheVariants.{Isolate, Fetch, Store}
use Rattle.model.specs.Replies.{replied, call_of}
use Rattle.access.specs.Access.{Fetches, Stores}
use Rattle.rights.specs.Isolated.{IsolatedTo, isolate_answer, SeenIsolated}
use Rattle.edits.specs.declared.Edit.TheVariants.{Nothing}
use Rattle.edits.specs.Edits.{change_of, Fits, Seen}
use Rattle.edits.proofs.Kept.{carried_reply}
use Rattle.sound.specs.declared.Sound.{Sound}
use Rattle.views.specs.declared.View.{View}
use Rattle.asks.specs.Asks.{asks_by}
use Rattle.views.specs.Views.{view_of}
use Rattle.deciding.specs.Decisions.{AsksWhole, DecidedTo, whole, with_edit, with_closing}
use Rattle.deciding.proofs.Served.{still, fetched, stored}
use Rattle.deciding.proofs.Touches.{touch, Unmoving, LeavesScratch, LeavesBuffer}

-- the view of a call whose operation is known
module _ (before : Sound) (k : Call) (m b : List ℕ) (o : Operation) (is : k.operation ≡ o) where
  abbrev view : Operation → View
  view w = view_of before.state.now (asks_by k.caller.guest w)

  -- one that stores one element at most
  pub edit_seen : Unmoving (touch o) → LeavesScratch (touch o) → LeavesBuffer (touch o) → (a : Answer) → Seen before (call_of k.caller o) a → DecidedTo (view k.operation) k.operation m b a m b
  edit_seen u ls lb a d =
      rw is
      (with_edit d.edit d.decided.fits (record {
        served = λ s c ok q. still s c o m b u ls lb _ (carried_reply s (record { answer = a; edit = d.edit }) _ _ (d.decided.decides s c ok q) refl);
      }))

  -- one that asks for whole tables
  pub whole_seen : AsksWhole o → (a : Answer) (m' b' : List ℕ) → DecidedTo (view k.operation) k.operation m b a m' b'
  whole_seen w a m' b' = rw is (whole w)

-- ISOLATE
pub isolate_seen : (before : Sound) (k : Call) (m b : List ℕ) (id : ℕ) (a : Answer) → k.operation ≡ Isolate id → SeenIsolated before k.caller id a
    → DecidedTo (view_of before.state.now (asks_by k.caller.guest k.operation)) k.operation m b a m b
unfolding replied change_of Fits
isolate_seen before k m b id a is d = rw (is, d.answer) (go d.decision d.decided)
  where
    v : View
    v = view_of before.state.now (asks_by k.caller.guest (Isolate id))

    go : (w : Result ℕ Answer) → IsolatedTo v id w → DecidedTo v (Isolate id) m b (isolate_answer w) m b
    go (Err x) h = with_edit Nothing tt (record { served = λ s c ok q. still s c (Isolate id) m b tt tt tt _ (ap (replied s) (sym (h.is s c ok q))) })
    go (Ok u) h = with_closing u h.low refl (record { served = λ s c ok q. still s c (Isolate id) m b tt tt tt _ (ap (replied s) (sym (h.decided.is s c ok q))) })

-- FETCH and STORE
module _ (before : Sound) (k : Call) (m b : List ℕ) (register address : ℕ) (a : Answer) where
  pub fetch_seen : (b' : List ℕ) → k.operation ≡ Fetch register address → Fetches (view_of before.state.now (asks_by k.caller.guest (Fetch register address))) register address m b a b'
      → DecidedTo (view_of before.state.now (asks_by k.caller.guest k.operation)) k.operation m b a m b'
  unfolding change_of Fits
  fetch_seen b' is f =
      rw is (with_edit Nothing tt (record { served = λ s c ok q. let told = f.is s c ok q in fetched s c (Fetch register address) m b tt tt a b' told.0 told.1 }))

  pub store_seen : (m' : List ℕ) → k.operation ≡ Store register address → Stores (view_of before.state.now (asks_by k.caller.guest (Store register address))) register address m b a m'
      → DecidedTo (view_of before.state.now (asks_by k.caller.guest k.operation)) k.operation m b a m' b
  unfolding change_of Fits
  store_seen m' is f =
      rw is (with_edit Nothing tt (record { served = λ s c ok q. let told = f.is s c ok q in stored s c (Store register address) m b tt tt a m' told.0 told.1 }))
