use Rattle.lists.proofs.Rules.{tests}
use Rattle.views.specs.Taking.{free_place}
use borrow.Author.Rules.{rules}
use Rattle.views.proofs.free_place.Goals as goal

pub returns-then-free-lt30 : goal.returns-then-free-lt30
unfolding free_place
returns-then-free-lt30 c = (search (tests, rules) depth 8, search rules)

pub returns : goal.returns
unfolding free_place
returns c = (search (tests, rules) depth 8, search rules)
