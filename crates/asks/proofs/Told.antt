-- Every call asks for its caller. Assumes nothing.
use Prim.Native.Nat.{ℕ}
use mathlib.Core.Path.{◌≡◌, refl}
use Rattle.model.specs.declared.Operation.{Operation}
use Rattle.model.specs.declared.Operation.TheVariants.{Enrol, Create, Destroy, Permit, Isolate, Query, Add, Remove, Load, Mode, Fetch, Store, Reset, Key, Block}
use Rattle.asks.specs.Asks.{asks_by}

pub asks_caller : (g : ℕ) (o : Operation) → (asks_by g o).caller ≡ g
unfolding asks_by
asks_caller g (Enrol x) = refl
asks_caller g (Create name pages) = refl
asks_caller g (Destroy id) = refl
asks_caller g (Permit id guest right) = refl
asks_caller g (Isolate id) = refl
asks_caller g (Query owner name) = refl
asks_caller g (Add id right) = refl
asks_caller g (Remove token) = refl
asks_caller g (Load register value) = refl
asks_caller g (Mode mode) = refl
asks_caller g (Fetch register address) = refl
asks_caller g (Store register address) = refl
asks_caller g Reset = refl
asks_caller g (Key key) = refl
asks_caller g (Block id address key mark) = refl
