use Rattle.fresh.proofs.Defaults.{empty_by}
use Rattle.fresh.proofs.empty.Goals as goal

pub returns : goal.returns
returns c =
    empty_by _ _ c.default.result c.default-2.result c.default-3.result c.default-4.result c.default-5.result c.default-6.result c.default.ensures c.default-2.ensures c.default-3.ensures c.default-4.ensures
    c.default-5.ensures c.default-6.ensures
