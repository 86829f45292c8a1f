use Rattle.fields.proofs.Readings.{padding_turn}
use Rattle.fields.proofs.padded.Goals as goal

pub loop-preserved : goal.loop-preserved
loop-preserved c = search padding_turn
