use Rattle.descriptors.proofs.Came.{moved_within}
use Rattle.descriptors.proofs.write_answered.Goals as goal

pub returns-in-Ok-clause-within : goal.returns-in-Ok-clause-within
returns-in-Ok-clause-within c = moved_within _ _ _ _ _ c.requires.at_inside c.write_came.ensures

pub returns-in-Err-clause-within : goal.returns-in-Err-clause-within
returns-in-Err-clause-within c = moved_within _ _ _ _ _ c.requires.at_inside c.write_came-in-Err.ensures
