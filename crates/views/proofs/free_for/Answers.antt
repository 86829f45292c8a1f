use Rattle.std.proofs.Common.{rules, tests}
use Rattle.std.proofs.lemmas.Iterator.{YieldsList-from_slice}
use Rattle.std.proofs.lemmas.Iterator.Search.{position_from_yields_List}
use Rattle.views.proofs.Lists.{takes, takes_none, taken}
use Rattle.views.proofs.free_for.Goals as goal

pub returns-then-not-takes : goal.returns-then-not-takes
returns-then-not-takes c = search takes_none

pub returns : goal.returns
returns c =
    let first = position_from_yields_List takes _ _ _ c.position.ensures.ran (YieldsList-from_slice _ c.iter.ensures.rest) (λ x b q k. search (rules, tests)) in
    taken _ _ _ _ _ _ _ c.if-not-takes.false c.min.ensures c.requires (search rules) first c.unwrap_or.ensures
