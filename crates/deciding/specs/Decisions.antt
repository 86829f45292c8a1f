-- What becomes of a call hangs on what it has seen of the tables alone. `m` is scratch, `b` the call's buffer.
use Rattle.std.specs.Prelude.{ℕ, ◌<◌, true, List, ◌≡◌}
use Rattle.model.specs.declared.Answer.{Answer}
use Rattle.model.specs.declared.Answer.TheVariants.{Done}
use Rattle.model.specs.declared.Caller.{Caller}
use Rattle.model.specs.declared.Change.{Change}
use Rattle.model.specs.declared.Change.TheVariants.{IsolateSpace}
use Rattle.model.specs.declared.Operation.{Operation}
use Rattle.model.specs.declared.Operation.TheVariants.{Enrol, Create, Destroy, Reset}
use Rattle.model.specs.declared.Settings.{Settings}
use Rattle.model.specs.declared.State.{State}
use Rattle.model.specs.Changes.{applied}
use Rattle.model.specs.Replies.{reply, call_of}
use Rattle.model.specs.SoundTest.{sound}
use Rattle.edits.specs.declared.Edit.{Edit}
use Rattle.edits.specs.Edits.{change_of, Fits}
use Rattle.views.specs.declared.View.{View}
use Rattle.asks.specs.Asks.{asks_by}
use Rattle.views.specs.Views.{view_of}
use Rattle.deciding.specs.Served.{Served}

-- For every caller and every sound state which shows what was seen, the call is served with the answer a once the change k is
-- made.
pub record CarriedOut (v : View) (o : Operation) (m b : List ℕ) (a : Answer) (k : Change) (m' b' : List ℕ) : Type 0 where
  pub served : (s : State) (c : Caller) → sound s ≡ true → v ≡ view_of s (asks_by c.guest o) → Served s (call_of c o) (reply a (applied s k)) m b m' b'

-- the calls that ask for whole tables
pub data AsksWhole : Operation → Type 0 where
  enrols : (settings : Settings) → AsksWhole (Enrol settings)
  creates : (name pages : ℕ) → AsksWhole (Create name pages)
  destroys : (id : ℕ) → AsksWhole (Destroy id)
  resets : AsksWhole Reset

-- any other is carried out once an element is stored, or the space in a slot is closed
pub data DecidedTo (v : View) (o : Operation) (m b : List ℕ) (a : Answer) (m' b' : List ℕ) : Type 0 where
  whole : AsksWhole o → DecidedTo v o m b a m' b'
  with_edit : (edit : Edit) → Fits edit → CarriedOut v o m b a (change_of edit) m' b' → DecidedTo v o m b a m' b'
  with_closing : (slot : ℕ) → slot < 32 → a ≡ Done 0 → CarriedOut v o m b a (IsolateSpace slot) m' b' → DecidedTo v o m b a m' b'
