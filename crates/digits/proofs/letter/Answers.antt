use Rattle.lists.proofs.Rules.{tests}
use Rattle.model.specs.Session.{hex_letter}
use Rattle.digits.proofs.letter.Goals as goal

pub returns-then-n-lt10 : goal.returns-then-n-lt10
unfolding hex_letter
returns-then-n-lt10 c = search tests

pub returns : goal.returns
unfolding hex_letter
returns c = search tests
