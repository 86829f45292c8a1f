-- What a call asks to see.
use Rattle.std.specs.Prelude.{ℕ, true, false, Option, None, Some}
use Rattle.model.specs.declared.Operation.{Operation}
use Rattle.model.specs.declared.Operation.TheVariants.{Enrol, Create, Destroy, Permit, Isolate, Query, Add, Remove, Load, Mode, Fetch, Store, Reset, Key, Block}
use Rattle.model.specs.declared.Request.{Request}
use Rattle.model.specs.declared.Request.TheVariants.{Frames, Call, NotRead}
use Rattle.asks.specs.declared.Asks.{Asks}
use Rattle.asks.specs.declared.Sought.{Sought}
use Rattle.asks.specs.declared.Sought.TheVariants.{Id, Named}
use Rattle.asks.specs.declared.Uses.{Uses}
use Rattle.asks.specs.declared.Uses.TheVariants.{Token, Register}

abbrev asking : (caller other : ℕ) → Uses → Option Sought → Asks
asking c o u x = record { caller = c; other = o; uses = u; sought = x; takes = false; address = 0 }

-- its caller alone
abbrev pub plainly : (caller : ℕ) → Asks
plainly c = asking c c (Token 0) None

-- bytes of a space, from an address on
abbrev pub moving : (caller register address : ℕ) → Asks
moving c r a = record { caller = c; other = c; uses = Register r; sought = None; takes = false; address = a }

unfoldable pub asks_by : (caller : ℕ) → Operation → Asks
asks_by c (Enrol x) = plainly c
asks_by c (Create name pages) = plainly c
asks_by c (Destroy id) = plainly c
asks_by c (Permit id guest right) = asking c guest (Token 0) (Some (Id id))
asks_by c (Isolate id) = asking c c (Token 0) (Some (Id id))
asks_by c (Query owner name) = asking c c (Token 0) (Some (Named owner name))
asks_by c (Add id right) = record { caller = c; other = c; uses = Token 0; sought = Some (Id id); takes = true; address = 0 }
asks_by c (Remove token) = asking c c (Token token) None
asks_by c (Load register value) = plainly c
asks_by c (Mode mode) = plainly c
asks_by c (Fetch register address) = moving c register address
asks_by c (Store register address) = moving c register address
asks_by c Reset = plainly c
asks_by c (Key key) = plainly c
asks_by c (Block id address key mark) = asking c c (Token 0) (Some (Id id))

unfoldable pub asks_for : Request → Asks
asks_for (Frames f) = plainly 0
asks_for (Call k n) = asks_by k.caller.guest k.operation
asks_for NotRead = plainly 0
