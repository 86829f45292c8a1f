use Rattle.std.proofs.Common.{ap, ◌∙◌}
use Rattle.works.specs.declared.Work.TheVariants.{Answering}
use Rattle.relay.specs.Ran.{unheaded}
use Rattle.relay.proofs.Endings.{run_headed}
use Rattle.relay.proofs.run.Goals as goal

pub returns-in-Ok : goal.returns-in-Ok
returns-in-Ok g c = run_headed _ _ (c.new-relaying.ensures.0 ∙ ap Answering c.«open».ensures) c.run.ensures

pub returns-in-Err : goal.returns-in-Err
returns-in-Err g c = unheaded
