use Rattle.model.specs.Lines.{forms}
use Rattle.lines.specs.Made.{low, lowered, made_by}
use Rattle.lines.proofs.make.Goals as goal

pub returns-in-2 : goal.returns-in-2
unfolding forms lowered low made_by
returns-in-2 c = rw (c.in-2.is, c.asked-in-2.ensures, c.low-guest.ensures, c.low-in-2.ensures)
