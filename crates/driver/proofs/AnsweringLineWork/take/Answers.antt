use Rattle.driver.proofs.Turned.{read_prepared, line_session, line_said}
use Rattle.driver.proofs.AnsweringLineWork.take.Goals as goal

pub turn-outcome-requires-clause-prepared : goal.turn-outcome-requires-clause-prepared
turn-outcome-requires-clause-prepared c = search read_prepared

pub returns-clause-session : goal.returns-clause-session
returns-clause-session c = search line_session

pub returns-clause-said : goal.returns-clause-said
returns-clause-said c = search line_said
