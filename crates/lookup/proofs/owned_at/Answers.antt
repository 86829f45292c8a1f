use Rattle.lists.proofs.Rules.{tests}
use Rattle.lookup.specs.Owned.{owned_at}
use borrow.Author.Rules.{rules}
use Rattle.lookup.proofs.owned_at.Goals as goal

pub returns-then-u-ge32 : goal.returns-then-u-ge32
unfolding owned_at
returns-then-u-ge32 c = search (tests, rules) depth 8

pub returns-then-from-guest : goal.returns-then-from-guest
unfolding owned_at
returns-then-from-guest c = search (tests, rules) depth 8

pub returns : goal.returns
unfolding owned_at
returns c = search (tests, rules) depth 8
