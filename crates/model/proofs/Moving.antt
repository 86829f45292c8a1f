-- What a done call has moved, by its class: nothing, or the bytes of the space that its token led to. Assumes nothing.
use Prim.Native.Nat.{ℕ}
use mathlib.Core.Bool.{Bool, true, false}
use mathlib.Core.Path.{◌≡◌}
use lib.Dec.{leb}
use Rattle.lists.specs.Choice.{choose}
use Rattle.model.specs.declared.Caller.{Caller}
use Rattle.model.specs.declared.Operation.{Operation}
use Rattle.model.specs.declared.Operation.TheVariants.{Enrol, Create, Destroy, Permit, Isolate, Query, Add, Remove, Load, Mode, Fetch, Store, Reset, Key, Block}
use Rattle.model.specs.declared.State.{State}
use Rattle.model.specs.Arguments.{arguments}
use Rattle.model.specs.Calls.{enrols, good_caller}
use Rattle.model.specs.Classes.{Moves, no_bytes, from_space, to_space, class_of}
use Rattle.model.specs.Decision.{Decision, Effect, none, clear, fetch, store}
use Rattle.model.specs.Granted.{Accessed, Performed, AllFit}
use Rattle.model.specs.Searches.{enrolled}

-- a fetch or store by an enrolled guest, through a register
pub record Transferred (s : State) (c : Caller) (r a n : ℕ) (storing : Bool) (f : ℕ → Effect) (d : Decision) : Type 0 where
  pub caller : enrolled s.guests c.guest ≡ true
  pub register : leb r 15 ≡ true
  pub accessed : Accessed s c r a n storing f d

-- an effect that moves no byte of a buffer
abbrev pub Unmoved : Effect → Type 0
Unmoved none = Unit {0}
Unmoved (clear fs) = Unit {0}
Unmoved (fetch u a) = ⊥
Unmoved (store u a) = ⊥

abbrev pub MovedAs : State → Caller → (buffer : ℕ) → Moves → Decision → Type 0
MovedAs s c n no_bytes d = Unmoved d.effect
MovedAs s c n (from_space r a) d = Transferred s c r a n false (λ u. fetch u a) d
MovedAs s c n (to_space r a) d = Transferred s c r a n true (λ u. store u a) d

pub performed_moved : (s : State) (c : Caller) (k : Operation) (n : ℕ) (d : Decision) → good_caller s c k ≡ true → AllFit (arguments s.guests c k n) → Performed s c k n d
    → MovedAs s c n (class_of k).moves d
unfolding good_caller enrols choose arguments AllFit Performed
performed_moved s c (Enrol x) n d e fit p = rw p.is tt
performed_moved s c (Create name pages) n d e fit p = rw p.made.is tt
performed_moved s c (Destroy id) n d e fit p = rw p.is tt
performed_moved s c (Permit id guest right) n d e fit p = rw p.is tt
performed_moved s c (Isolate id) n d e fit p = rw p.is tt
performed_moved s c (Query owner name) n d e fit p = rw p.is tt
performed_moved s c (Add id right) n d e fit p = rw p.is tt
performed_moved s c (Remove token) n d e fit p = rw p.is tt
performed_moved s c (Load register value) n d e fit p = rw p.is tt
performed_moved s c (Mode mode) n d e fit p = rw p.is tt
performed_moved s c (Fetch register address) n d e fit p = record { caller = e; register = fit.0; accessed = p }
performed_moved s c (Store register address) n d e fit p = record { caller = e; register = fit.0; accessed = p }
performed_moved s c Reset n d e fit p = rw p.is tt
performed_moved s c (Key key) n d e fit p = rw p.is tt
performed_moved s c (Block id address key mark) n d e fit p = rw p.is tt
