use Rattle.std.proofs.Common.{rules, tests}
use Rattle.std.proofs.lemmas.Iterator.{YieldsList-from_slice}
use Rattle.std.proofs.lemmas.Iterator.Search.{position_from_yields_List}
use Rattle.model.specs.Searches.{is_space}
use Rattle.lookup.proofs.Found.{space_found}
use Rattle.lookup.proofs.find_space.Goals as goal

pub returns : goal.returns
returns c =
    space_found c.args.spaces.now (search rules) c.args.id _
    (position_from_yields_List (is_space c.args.id) _ _ _ c.position.ensures.ran (YieldsList-from_slice _ c.iter.ensures.rest) (λ x b q k. search (rules, tests)))
