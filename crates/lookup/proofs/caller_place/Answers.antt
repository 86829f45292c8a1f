use Rattle.lookup.proofs.Found.{found_below, found_end}
use Rattle.lookup.proofs.Rows.{place_by_row}
use Rattle.lookup.proofs.caller_place.Goals as goal

pub returns-then-at-lt8 : goal.returns-then-at-lt8
returns-then-at-lt8 c = search (found_below, place_by_row)

pub returns-else-at-lt8 : goal.returns-else-at-lt8
returns-else-at-lt8 c = search (found_end, place_by_row)
