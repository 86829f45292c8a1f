use borrow.Author.Rules.{rules}
use Rattle.lookup.proofs.Found.{data_counted}
use Rattle.lookup.proofs.data_spaces.Goals as goal

pub returns : goal.returns
returns c = search (rules, data_counted)
