use Rattle.views.proofs.Told.{sought_some, sought_none, sought_fits}
use Rattle.views.proofs.slot_sought.Goals as goal

pub overflow_cast-result : goal.overflow_cast-result
overflow_cast-result c = search sought_fits

pub returns-in-Some : goal.returns-in-Some
returns-in-Some c = search sought_some

pub returns-in-None : goal.returns-in-None
returns-in-None c = search sought_none
