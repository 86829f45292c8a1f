use Rattle.access.proofs.Moved.{few, store_refused, store_reached}
use borrow.Author.Rules.{rules}
use Rattle.access.proofs.store_seen.Goals as goal

pub store_to-requires : goal.store_to-requires
store_to-requires c = (few _ _ _ _ c.in-Ok.ensures, search rules)

pub returns-in-Ok : goal.returns-in-Ok
returns-in-Ok c = search (store_reached, c.in-Ok.ensures)

pub returns-in-Err : goal.returns-in-Err
returns-in-Err c = search (store_refused, c.in-Err.ensures)
