use Rattle.std.proofs.Common.{rules, tests}
use Rattle.std.proofs.lemmas.Iterator.{YieldsList-from_slice}
use Rattle.std.proofs.lemmas.Iterator.Search.{position_from_yields_List}
use mathlib.Core.Bool.{not}
use Rattle.model.specs.Tables.{live}
use Rattle.lookup.proofs.Found.{free_found}
use Rattle.lookup.proofs.free_slot.Goals as goal

pub returns : goal.returns
returns c =
    free_found c.args.spaces.now (search rules) _
    (position_from_yields_List (λ x. not (live x)) _ _ _ c.position.ensures.ran (YieldsList-from_slice _ c.iter.ensures.rest) (λ x b q k. search (rules, tests)))
