use Rattle.views.specs.Search.{slot_using}
use Rattle.views.proofs.slot_for.Goals as goal

pub returns-in-Token : goal.returns-in-Token
unfolding slot_using
returns-in-Token c = cc

pub returns-in-Register : goal.returns-in-Register
unfolding slot_using
returns-in-Register c = cc
