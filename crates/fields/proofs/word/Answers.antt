use Rattle.std.proofs.Common.{arith, rules}
use Rattle.fields.proofs.Readings.{word_turn}
use Rattle.fields.proofs.word.Goals as goal

pub loop-end-preserved : goal.loop-end-preserved
loop-end-preserved c = (search word_turn, search rules, omega arith)
