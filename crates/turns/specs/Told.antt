-- What becomes of a request hangs on what it sees of the tables alone.
use Rattle.std.specs.Prelude.{ℕ, ◌<◌, Bool, true, List, ◌≡◌, length}
use Rattle.model.specs.declared.Change.{Change}
use Rattle.model.specs.declared.Change.TheVariants.{IsolateSpace}
use Rattle.model.specs.declared.Request.{Request}
use Rattle.model.specs.declared.Request.TheVariants as request
use Rattle.model.specs.declared.State.{State}
use Rattle.model.specs.Changes.{applied}
use Rattle.model.specs.Parts.{data_in}
use Rattle.model.specs.Session.{request_turn}
use Rattle.deciding.specs.Decisions.{AsksWhole}
use Rattle.edits.specs.declared.Edit.{Edit}
use Rattle.edits.specs.Edits.{change_of, Fits}
use Rattle.ready.specs.Usable.{usable}
use Rattle.asks.specs.Asks.{asks_for}
use Rattle.views.specs.Views.{view_of}
use Rattle.turns.specs.declared.Host.{Host}
use Rattle.turns.specs.declared.Outcome.{Outcome}
use Rattle.turns.specs.Taken.{session_of, Taken}

-- the tables s show what the request sees of the host's; `room` is the length of the lent scratch
pub record Sees (s : State) (q : Request) (room : ℕ) (h : Host) : Type 0 where
  pub ready : h.ready ≡ usable s room
  pub frames : h.state.frames ≡ s.frames
  pub view : view_of h.state (asks_for q) ≡ view_of s (asks_for q)

-- where the host stands with other tables
abbrev pub host_of : Host → State → Host
host_of h s = record { begun = h.begun; ready = h.ready; state = s }

-- For all tables that show what the request q sees, its turn is taken once the change k is made. `m` is scratch, `b` the buffer as
-- the reader has filled it.
pub record AnsweredBy (h : Host) (q : Request) (m b : List ℕ) (o : Outcome) (k : Change) (m' b' : List ℕ) : Type 0 where
  pub taken : (s : State) → Sees s q (length m) h → Taken (request_turn (session_of (host_of h s) m) q (data_in q b)) o b' (host_of h (applied s k)) m'

-- what asks for whole tables: FRAMES, and a call that check 1 holds of and that does so
abbrev pub Waiting : (begun ready : Bool) → Request → Type 0
Waiting b r (request.Frames count) = Unit {0}
Waiting b r (request.Call k size) = (b ≡ true) × (r ≡ true) × AsksWhole k.operation
Waiting b r request.NotRead = ⊥

-- any other request is answered once an element is stored, or the space in a slot is closed
pub data AnsweredTo (h : Host) (q : Request) (m b : List ℕ) (o : Outcome) (m' b' : List ℕ) : Type 0 where
  waits : Waiting h.begun h.ready q → AnsweredTo h q m b o m' b'
  with_edit : (edit : Edit) → Fits edit → AnsweredBy h q m b o (change_of edit) m' b' → AnsweredTo h q m b o m' b'
  with_closing : (slot : ℕ) → slot < 32 → AnsweredBy h q m b o (IsolateSpace slot) m' b' → AnsweredTo h q m b o m' b'
