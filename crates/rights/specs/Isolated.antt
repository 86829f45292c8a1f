-- What ISOLATE decides on what it has seen: a refusal, or the slot that it closes. It is what the model decides, for every caller
-- and every sound state which shows this.
use Rattle.std.specs.Prelude.{ℕ, ◌<◌, true, Result, Ok, Err, ◌≡◌}
use Rattle.model.specs.declared.Answer.{Answer}
use Rattle.model.specs.declared.Answer.TheVariants.{Done}
use Rattle.model.specs.declared.Caller.{Caller}
use Rattle.model.specs.declared.Change.TheVariants.{IsolateSpace}
use Rattle.model.specs.declared.Operation.TheVariants.{Isolate}
use Rattle.model.specs.declared.State.{State}
use Rattle.model.specs.Calls.{judge}
use Rattle.model.specs.Decision.{Decision, refuse, done}
use Rattle.model.specs.Replies.{call_of}
use Rattle.model.specs.SoundTest.{sound}
use Rattle.sound.specs.declared.Sound.{Sound}
use Rattle.views.specs.declared.View.{View}
use Rattle.asks.specs.Asks.{asks_by}
use Rattle.views.specs.Views.{view_of}

pub record IsDecided (v : View) (id : ℕ) (d : Decision) : Type 0 where
  pub is : (s : State) (c : Caller) → sound s ≡ true → v ≡ view_of s (asks_by c.guest (Isolate id)) → judge s (call_of c (Isolate id)) 0 ≡ d

pub record Closes (v : View) (id slot : ℕ) : Type 0 where
  pub low : slot < 32
  pub decided : IsDecided v id (done (IsolateSpace slot))

abbrev pub IsolatedTo : View → (id : ℕ) → Result ℕ Answer → Type 0
IsolatedTo v i (Err a) = IsDecided v i (refuse a)
IsolatedTo v i (Ok u) = Closes v i u

-- a space that is closed is the value 0
abbrev pub isolate_answer : Result ℕ Answer → Answer
isolate_answer (Err a) = a
isolate_answer (Ok u) = Done 0

-- what ISOLATE has come to on a sound state was decided on what it saw alone
pub record SeenIsolated (before : Sound) (c : Caller) (id : ℕ) (a : Answer) : Type 0 where
  pub decision : Result ℕ Answer
  pub decided : IsolatedTo (view_of before.state.now (asks_by c.guest (Isolate id))) id decision
  pub answer : a ≡ isolate_answer decision
