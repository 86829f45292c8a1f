-- "From a fresh state the scratch first holds anything, and only earlier calls answered 0 count." The record of a list of
-- calls, latest first, with what each answered, and what a call answered 0 has done.
use Rattle.std.specs.Prelude.{ℕ, zero, suc, List, [], ◌∷◌}
use Rattle.model.specs.declared.Call.{Call}
use Rattle.model.specs.declared.Caller.{Caller}
use Rattle.model.specs.declared.Operation.{Operation}
use Rattle.model.specs.declared.Operation.TheVariants.{Enrol, Create, Destroy, Permit, Isolate, Query, Add, Remove, Load, Mode, Fetch, Store, Reset, Key, Block}
use Rattle.model.specs.declared.Right.{Right}
use Rattle.model.specs.Answers.{number, value}
use Rattle.model.specs.Step.{Machine, Issue, step}

pub record Event : Type 0 where
  pub call : Call
  pub number : ℕ
  pub value : ℕ

abbrev pub event_of : Machine → Issue → Event
event_of m i = record { call = i.call; number = number (step m i).answer; value = value (step m i).answer }

-- the record h carried on over a list of calls
unfoldable pub recorded : List Event → Machine → List Issue → List Event
recorded h m [] = h
recorded h m (i ∷ is) = recorded (event_of m i ∷ h) (step m i).machine is

-- What a call answered 0 has done to ownership, permits, lists and registers.
pub data Deed : Type 0 where
  nothing : Deed
  enrolled : (guest id : ℕ) → Deed
  created : (guest id : ℕ) → Deed
  destroyed : (guest id : ℕ) → Deed
  permitted : (guest id other : ℕ) (right : Right) → Deed
  isolated : (guest id : ℕ) → Deed
  added : (guest id : ℕ) (right : Right) (token : ℕ) → Deed
  removed : (guest token : ℕ) → Deed
  loaded : (caller : Caller) (register value : ℕ) → Deed
  switched : (caller : Caller) (mode : ℕ) → Deed
  reset : (guest : ℕ) → Deed

unfoldable pub deed_done : Caller → Operation → (value : ℕ) → Deed
deed_done c (Enrol x) v = enrolled c.guest v
deed_done c (Create name pages) v = created c.guest v
deed_done c (Destroy id) v = destroyed c.guest id
deed_done c (Permit id guest right) v = permitted c.guest id guest right
deed_done c (Isolate id) v = isolated c.guest id
deed_done c (Query owner name) v = nothing
deed_done c (Add id right) v = added c.guest id right v
deed_done c (Remove token) v = removed c.guest token
deed_done c (Load register value) v = loaded c register value
deed_done c (Mode m) v = switched c m
deed_done c (Fetch register address) v = nothing
deed_done c (Store register address) v = nothing
deed_done c Reset v = reset c.guest
deed_done c (Key key) v = nothing
deed_done c (Block id address key mark) v = nothing

-- a call with any other answer has done nothing
unfoldable pub deed_of : Call → (number value : ℕ) → Deed
deed_of k zero v = deed_done k.caller k.operation v
deed_of k (suc n) v = nothing

abbrev pub deed : Event → Deed
deed e = deed_of e.call e.number e.value
