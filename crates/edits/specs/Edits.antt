-- One element stored, as a change of the model, and what a call's code has decided of one.
use Rattle.std.specs.Prelude.{◌<◌, true, ◌≡◌, Result, Ok, Err}
use Rattle.model.specs.declared.Answer.{Answer}
use Rattle.model.specs.declared.Answer.TheVariants.{Done}
use Rattle.model.specs.declared.Call.{Call}
use Rattle.model.specs.declared.Caller.{Caller}
use Rattle.model.specs.declared.Change.{Change}
use Rattle.model.specs.declared.Change.TheVariants.{Keep, SetPermit, SetEntry, SetRegister, SetMode, SetKey, SetCell}
use Rattle.model.specs.declared.Operation.{Operation}
use Rattle.model.specs.declared.State.{State}
use Rattle.model.specs.Calls.{judge}
use Rattle.model.specs.Decision.{Decision}
use Rattle.model.specs.Replies.{call_of}
use Rattle.model.specs.SoundTest.{sound}
use Rattle.sound.specs.declared.Sound.{Sound}
use Rattle.views.specs.declared.View.{View}
use Rattle.asks.specs.Asks.{asks_by}
use Rattle.views.specs.Views.{view_of}
use Rattle.edits.specs.declared.Edit.{Edit}
use Rattle.edits.specs.declared.Edit.TheVariants.{Nothing, Permit, Entry, Register, Mode, Key, Cell}
use Rattle.edits.specs.declared.Edited.{Edited}
use Rattle.edits.specs.declared.Granted.{Granted}

unfoldable pub change_of : Edit → Change
change_of Nothing = Keep
change_of (Permit k p) = SetPermit k p
change_of (Entry k e) = SetEntry k e
change_of (Register k r v) = SetRegister k r v
change_of (Mode k m) = SetMode k m
change_of (Key k x) = SetKey k x
change_of (Cell f c) = SetCell f c

-- what a call comes to that was decided: one that is refused stores nothing
abbrev pub edited : Result Granted Answer → Edited
edited (Ok x) = record { answer = Done x.value; edit = x.edit }
edited (Err a) = record { answer = a; edit = Nothing }

-- the element stands in its table; every place of a byte's size is one of the permits
unfoldable pub Fits : Edit → Type 0
Fits Nothing = Unit {0}
Fits (Permit k p) = Unit {0}
Fits (Entry k e) = k < 240
Fits (Register k r v) = (k < 8) × (r < 16)
Fits (Mode k m) = k < 8
Fits (Key k x) = k < 8
Fits (Cell f c) = f < 512

-- it is what the model decides
pub record Decides (e : Edited) (d : Decision) : Type 0 where
  pub answer : e.answer ≡ d.answer
  pub change : change_of e.edit ≡ d.change

-- What a call decides on what it has seen: an edit that fits, and that for every caller and every sound state which shows this
-- is what the model decides.
pub record Decided (v : View) (o : Operation) (x : Edited) : Type 0 where
  pub fits : Fits x.edit
  pub decides : (s : State) (c : Caller) → sound s ≡ true → v ≡ view_of s (asks_by c.guest o) → Decides x (judge s (call_of c o) 0)

-- What a call on a sound state has come to was decided on what it saw alone: its answer, and with it an edit.
pub record Seen (before : Sound) (k : Call) (a : Answer) : Type 0 where
  pub edit : Edit
  pub decided : Decided (view_of before.state.now (asks_by k.caller.guest k.operation)) k.operation (record { answer = a; edit = edit })
