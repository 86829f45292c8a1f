-- The slot of the space that a call names, or that its token stands for; 32 where there is none.
use Rattle.std.specs.Prelude.{ℕ, List, Option, Some, None, eqb}
use Rattle.lists.specs.Choice.{choose}
use Rattle.model.specs.declared.Entry.{Entry}
use Rattle.model.specs.declared.Space.{Space}
use Rattle.model.specs.declared.Standing.{Standing}
use Rattle.model.specs.declared.Standing.TheVariants.{Unused, Valid, Revoked}
use Rattle.model.specs.Names.{base_name}
use Rattle.model.specs.Searches.{slot_of, slot_named}
use Rattle.model.specs.Sizes.{slot_count}
use Rattle.asks.specs.declared.Asks.{Asks}
use Rattle.asks.specs.declared.Sought.{Sought}
use Rattle.asks.specs.declared.Sought.TheVariants.{Id, Named}
use Rattle.asks.specs.declared.Uses.{Uses}
use Rattle.asks.specs.declared.Uses.TheVariants.{Token, Register}

unfoldable pub slot_sought : Option Sought → List Space → ℕ
slot_sought None ss = slot_count
slot_sought (Some (Id i)) ss = slot_of ss i
slot_sought (Some (Named o n)) ss = slot_named ss o n

unfoldable pub slot_in : Standing → ℕ
slot_in Unused = slot_count
slot_in (Valid u r) = u
slot_in Revoked = slot_count

-- through a token: the caller's primary space for token 0, else the space of the entry
unfoldable pub slot_through : (caller token : ℕ) → Standing → List Space → ℕ
slot_through c t x ss = choose (eqb t 0) (slot_named ss c base_name) (slot_in x)

unfoldable pub slot_using : Uses → (caller : ℕ) → Option Sought → (token : ℕ) → Standing → List Space → ℕ
slot_using (Token k) c x t e ss = slot_sought x ss
slot_using (Register r) c x t e ss = slot_through c t e ss

abbrev pub slot_for : Asks → (token : ℕ) → Entry → List Space → ℕ
slot_for a t e ss = slot_using a.uses a.caller a.sought t e.standing ss
