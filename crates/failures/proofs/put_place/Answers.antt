use Rattle.digits.proofs.Writing.{adds_more}
use Rattle.failures.proofs.Message.{place_none, place_line}
use Rattle.failures.proofs.put_place.Goals as goal

pub returns-then-line-eq0 : goal.returns-then-line-eq0
returns-then-line-eq0 c = search (place_none, adds_more)

pub returns : goal.returns
returns c = search (place_line, adds_more)
