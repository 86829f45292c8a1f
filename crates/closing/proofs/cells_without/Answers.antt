use Rattle.std.proofs.Common.{rules}
use Rattle.closing.proofs.Defaults.{cell_default}
use Rattle.closing.proofs.Filled.{cells_gone}
use Rattle.closing.proofs.cells_without.Goals as goal

pub returns : goal.returns
returns c = cells_gone c.args.cells.now _ c.args.first c.args.pages _ c.requires c.told-cells (cell_default _ c.default.ensures) (c.fill.ensures.after (λ y h. search rules))
