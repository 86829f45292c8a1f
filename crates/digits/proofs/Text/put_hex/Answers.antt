use Rattle.std.proofs.Common.{arith}
use Rattle.digits.proofs.Hexes.{hex_length}
use Rattle.digits.proofs.Text.put_hex.Goals as goal

pub returns-clause-short : goal.returns-clause-short
returns-clause-short c = omega (arith, hex_length)
