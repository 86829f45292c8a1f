use native.Mathlib.Omega.{arith}
use Rattle.views.specs.Views.{cell_place}
use Rattle.views.proofs.beyond_place.Goals as goal

pub returns : goal.returns
unfolding cell_place
returns c = (omega (arith, c.block_place.ensures.0), omega arith)
