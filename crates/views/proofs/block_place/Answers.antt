use native.Mathlib.Omega.{arith}
use Rattle.views.specs.Views.{cell_place}
use borrow.Author.Rules.{rules}
use Rattle.views.proofs.block_place.Goals as goal

pub returns : goal.returns
unfolding cell_place
returns c = (search rules, omega arith)
