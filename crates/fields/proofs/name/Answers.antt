use Rattle.std.proofs.Common.{arith, rules}
use Rattle.fields.proofs.Readings.{letters_turn}
use Rattle.fields.proofs.name.Goals as goal

pub loop-i-preserved : goal.loop-i-preserved
loop-i-preserved c = (search letters_turn, search rules, omega arith)
