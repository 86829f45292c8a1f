-- The token that a call uses.
use Rattle.std.specs.Prelude.{ℕ, leb}
use Rattle.lists.specs.Choice.{choose}
use Rattle.asks.specs.declared.Uses.{Uses}
use Rattle.asks.specs.declared.Uses.TheVariants.{Token, Register}
use Rattle.model.specs.declared.Cpu.{Cpu}
use Rattle.model.specs.Tokens.{token_used}

-- the token, by the caller's CPU; a register that no CPU has holds none
unfoldable pub token_by : Uses → Cpu → ℕ
token_by (Token t) c = t
token_by (Register r) c = choose (leb r 15) (token_used c r) 0
