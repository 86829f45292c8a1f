-- One call on tables and bytes, and a list of calls. Paper 01, "What the statements owe": for each input "the answer number,
-- the value, the tables after it, and every byte of scratch and buffer"; "Demand 3, word by word": "Each gets the tables and
-- scratch that the one before it returned or left. Each fetch or store has its own buffer".
use Rattle.std.specs.Prelude.{ℕ, ◌*◌, ◌/◌, Bool, List, [], ◌∷◌, ◌≡◌, length}
use Rattle.lists.specs.Bytes.{put, get}
use Rattle.lists.specs.Choice.{choose}
use Rattle.lists.specs.Places.{map_places}
use Rattle.model.specs.declared.Answer.{Answer}
use Rattle.model.specs.declared.Call.{Call}
use Rattle.model.specs.declared.State.{State}
use Rattle.model.specs.Calls.{decide}
use Rattle.model.specs.Decision.{Decision, after, Effect, none, clear, fetch, store}
use Rattle.model.specs.Frames.{layout, place_of}
use Rattle.model.specs.Sizes.{frame_size}
use Rattle.model.specs.Sound.{Sound}

-- scratch with frames filled with zeros; the byte at place p is one of frame p / 4,096
unfoldable pub clear_frames : (frames : ℕ → Bool) → List ℕ → List ℕ
clear_frames fs m = map_places (λ p x. choose (fs (p / frame_size)) 0 x) m

-- "a store replaces only the bytes named". `s` are the tables after the call, `m` scratch, `b` the lent buffer.
unfoldable pub scratch_after : State → Effect → (m b : List ℕ) → List ℕ
scratch_after s none m b = m
scratch_after s (clear fs) m b = clear_frames fs m
scratch_after s (fetch u a) m b = m
scratch_after s (store u a) m b = put (place_of (layout s) u) a b m

-- "Bytes of the fetch go to the buffer"
unfoldable pub buffer_after : State → Effect → (m b : List ℕ) → List ℕ
buffer_after s none m b = b
buffer_after s (clear fs) m b = b
buffer_after s (fetch u a) m b = get (place_of (layout s) u) a (length b) m
buffer_after s (store u a) m b = b

pub record Machine : Type 0 where
  pub tables : State
  pub scratch : List ℕ

-- check 1 as a statement: the state is sound and scratch has F x 4,096 bytes
pub record Ready (m : Machine) : Type 0 where
  pub sound : Sound m.tables
  pub room : length m.scratch ≡ m.tables.frames * frame_size

-- a call with the buffer lent to it
pub record Issue : Type 0 where
  pub call : Call
  pub buffer : List ℕ

pub record Outcome : Type 0 where
  pub answer : Answer
  pub machine : Machine
  pub buffer : List ℕ

abbrev pub decision : Machine → Issue → Decision
decision m i = decide m.tables (length m.scratch) i.call (length i.buffer)

abbrev pub outcome : Machine → Issue → Decision → Outcome
outcome m i d = record {
  answer = d.answer;
  machine = record { tables = after m.tables d; scratch = scratch_after (after m.tables d) d.effect m.scratch i.buffer };
  buffer = buffer_after (after m.tables d) d.effect m.scratch i.buffer;
}

unfoldable pub step : Machine → Issue → Outcome
step m i = outcome m i (decision m i)

-- every call of a list, each on what the one before it left
unfoldable pub run : Machine → List Issue → List Outcome
run m [] = []
run m (i ∷ is) = step m i ∷ run (step m i).machine is

unfoldable pub after_run : Machine → List Issue → Machine
after_run m [] = m
after_run m (i ∷ is) = after_run (step m i).machine is
