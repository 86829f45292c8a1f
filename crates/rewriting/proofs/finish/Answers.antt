use Rattle.rewriting.proofs.AnySession.{finished_any}
use Rattle.rewriting.proofs.finish.Goals as goal

pub returns : goal.returns
returns c = finished_any _ _ _ _ _ _ _ _ c.finish.ensures
