use Rattle.descriptors.proofs.Came.{got_within}
use Rattle.descriptors.proofs.read_answered.Goals as goal

pub returns-in-Ok-clause-within : goal.returns-in-Ok-clause-within
returns-in-Ok-clause-within c = got_within _ _ _ _ c.read_came.ensures

pub returns-in-Err-clause-within : goal.returns-in-Err-clause-within
returns-in-Err-clause-within c = got_within _ _ _ _ c.read_came-in-Err.ensures
