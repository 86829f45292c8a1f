use native.Mathlib.Omega.{arith}
use Rattle.turns.proofs.Filled.{length-fetch, length-store, length_none, length_most}
use Rattle.turns.proofs.buffer_length.Goals as goal

pub returns-in-Fetch : goal.returns-in-Fetch
returns-in-Fetch c = (search length-fetch, search length_most)

pub returns-in-Store : goal.returns-in-Store
returns-in-Store c = (search length-store, search length_most)

pub returns-in_default : goal.returns-in_default
returns-in_default c = (length_none _ _ c.in_default.not-Fetch c.in_default.not-Store, omega arith)
