-- A list of 256 numbers is the table if one computed test says so. Assumes nothing.
use Prim.Native.Nat.{ℕ}
use mathlib.Core.Bool.{Bool, true, false}
use mathlib.Core.List.{List}
use mathlib.Core.Path.{◌≡◌}
use lib.Dec.{eqb}
use lib.ListN.{get_or}
use borrow.Author.Tests.{eqb-true, eq-eqb, ne_eqb}
use native.Mathlib.Omega.{arith}
use Rattle.lists.specs.Choice.{choose}
use Rattle.lists.specs.Places.{every}
use Rattle.lists.proofs.Places.{every_at}
use Rattle.names.specs.Later.{later_byte, LaterTable}

abbrev pub right : List ℕ → ℕ → Bool
right t b = eqb (get_or t b 0) (choose (later_byte b) 1 0)

pub table_of : (t : List ℕ) → every (right t) 256 ≡ true → LaterTable t
table_of t e = record { holds = λ b h. eqb-true (get_or t b 0) (choose (later_byte b) 1 0) (every_at (right t) 256 e b h) }

-- what a byte's number in the table says
pub is_one : (x : ℕ) (b : Bool) → x ≡ choose b 1 0 → eqb x 1 ≡ b
unfolding choose
is_one x true e = eq-eqb x 1 e
is_one x false e = ne_eqb x 1 (λ q. omega arith)
