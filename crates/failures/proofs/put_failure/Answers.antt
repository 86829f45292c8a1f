use Rattle.failures.proofs.Message.{reading_told, writing_told}
use Rattle.failures.proofs.put_failure.Goals as goal

pub returns-in-Reading-clause-adds : goal.returns-in-Reading-clause-adds
returns-in-Reading-clause-adds c = search reading_told

pub returns-in-Writing-clause-adds : goal.returns-in-Writing-clause-adds
returns-in-Writing-clause-adds c = search writing_told
