use Rattle.closing.proofs.Withdrawn.{isolated_by}
use Rattle.closing.proofs.close.Goals as goal

pub returns : goal.returns
returns c = search isolated_by
