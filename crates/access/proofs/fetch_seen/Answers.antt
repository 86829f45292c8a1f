use Rattle.access.proofs.Moved.{few, fetch_refused, fetch_reached}
use borrow.Author.Rules.{rules}
use Rattle.access.proofs.fetch_seen.Goals as goal

pub fetch_from-requires : goal.fetch_from-requires
fetch_from-requires c = (few _ _ _ _ c.in-Ok.ensures, search rules)

pub returns-in-Ok : goal.returns-in-Ok
returns-in-Ok c = search (fetch_reached, c.in-Ok.ensures)

pub returns-in-Err : goal.returns-in-Err
returns-in-Err c = search (fetch_refused, c.in-Err.ensures)
