-- What becomes of one request: the session after it, and its outcome.
use Rattle.std.specs.Prelude.{ℕ, min, ◌≤◌, true, List, ◌≡◌, length, take, replicate}
use Rattle.lists.specs.Bytes.{over}
use Rattle.model.specs.declared.Request.{Request}
use Rattle.model.specs.Classes.{Moves, no_bytes, from_space, to_space}
use Rattle.model.specs.Lines.{stores, length_of}
use Rattle.model.specs.Parts.{data_in}
use Rattle.model.specs.Session.{Session, LineOutcome, Turn}
use Rattle.ready.specs.Usable.{usable}
use Rattle.turns.specs.declared.Host.{Host}
use Rattle.turns.specs.declared.Outcome.{Outcome}

-- where the host stands in a session
abbrev pub session_of : Host → (scratch : List ℕ) → Session
session_of h m = record { begun = h.begun; tables = h.state; scratch = m }

-- the buffer as the reader leaves it: a store finds its data in front, and all other bytes are zeros
pub record Prepared (q : Request) (b : List ℕ) : Type 0 where
  pub filled : b ≡ over (replicate 257 0) 0 (data_in q b)
  pub fits : stores q ≡ true → length_of q ≤ 257

-- how many of its bytes are the call's: none, or as many as its length says, 257 at most
unfoldable pub buffer_length : Moves → (length : ℕ) → ℕ
buffer_length no_bytes n = 0
buffer_length (from_space r a) n = min n 257
buffer_length (to_space r a) n = min n 257

-- the outcome of a line (Session), whose bytes moved stand in front in its buffer
abbrev pub outcome_of : Outcome → (buffer : List ℕ) → LineOutcome
outcome_of o b = record { request = o.request; answer = o.answer; moved = take o.moved b }

-- the turn t has been taken: the host and scratch are those after it, its outcome is o with the buffer b, and the host knows
-- whether check 1 holds
pub record Taken (t : Turn) (o : Outcome) (b : List ℕ) (h : Host) (m : List ℕ) : Type 0 where
  pub session : session_of h m ≡ t.after
  pub outcome : outcome_of o b ≡ t.outcome
  pub ready : h.ready ≡ usable h.state (length m)
