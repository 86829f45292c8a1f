use Rattle.replies.proofs.Values.{line_done}
use Rattle.replies.proofs.put_line.Goals as goal

pub returns-clause-adds : goal.returns-clause-adds
returns-clause-adds c = search line_done
