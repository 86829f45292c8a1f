use native.Mathlib.Omega.{arith}
use Rattle.held.proofs.Held.{hold_part}
use Rattle.held.proofs.hold.Goals as goal

pub returns : goal.returns
returns c = record { kept = search (hold_part, c.kept-start.ensures.count.0, arith); most = omega arith }
