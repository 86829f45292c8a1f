use Rattle.std.proofs.Common.{rules, tests}
use Rattle.std.proofs.lemmas.Iterator.{YieldsList-from_slice}
use Rattle.std.proofs.lemmas.Iterator.Search.{position_from_yields_List}
use Rattle.model.specs.Searches.{is_named}
use Rattle.lookup.proofs.Found.{named_found}
use Rattle.lookup.proofs.find_named.Goals as goal

pub returns : goal.returns
returns c =
    named_found c.args.spaces.now (search rules) c.args.owner c.args.name _
    (position_from_yields_List (is_named c.args.owner c.args.name) _ _ _ c.position.ensures.ran (YieldsList-from_slice _ c.iter.ensures.rest) (λ x b q k. search (rules, tests)))
