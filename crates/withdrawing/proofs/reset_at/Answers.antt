use Rattle.withdrawing.proofs.Resetting.{all_reset}
use Rattle.withdrawing.proofs.reset_at.Goals as goal

pub returns : goal.returns
returns c = search all_reset
