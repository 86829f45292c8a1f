-- A decision: what a call answers, what it changes in the tables, and what it does to bytes. Tables and bytes after the call follow
-- from the change and the effect (`after` here, Step).
use Rattle.std.specs.Prelude.{ℕ, Bool, true, false}
use Rattle.model.specs.declared.Answer.{Answer}
use Rattle.model.specs.declared.Answer.TheVariants.{Done}
use Rattle.model.specs.declared.Change.{Change}
use Rattle.model.specs.declared.Change.TheVariants.{Keep}
use Rattle.model.specs.declared.State.{State}
use Rattle.model.specs.Changes.{applied}

-- `clear` fills frames with zeros, a set of frame numbers; `fetch` reads the lent buffer's length of bytes of the space in a slot,
-- from an address on; `store` writes the buffer there. A slot is one of the tables after the call.
pub data Effect : Type 0 where
  none : Effect
  clear : (frames : ℕ → Bool) → Effect
  fetch : (slot address : ℕ) → Effect
  store : (slot address : ℕ) → Effect

pub record Decision : Type 0 where
  pub answer : Answer
  pub change : Change
  pub effect : Effect

-- the tables after a call that was made on the tables s
abbrev pub after : State → Decision → State
after s d = applied s d.change

-- "Every refusal of a call .. changes no table, no scratch byte and no caller's buffer"
abbrev pub refuse : Answer → Decision
refuse a = record { answer = a; change = Keep; effect = none }

abbrev pub accept : (value : ℕ) → Change → Effect → Decision
accept v c f = record { answer = Done v; change = c; effect = f }

-- "A done call with no value named below carries 0 too."
abbrev pub done : Change → Decision
done c = accept 0 c none

-- A check: where it passes the decision goes on, else the call is refused. A call's checks are one chain of these.
unfoldable pub check : Bool → Answer → Decision → Decision
check true a d = d
check false a d = refuse a
