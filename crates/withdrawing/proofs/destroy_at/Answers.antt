use mathlib.Core.Path.{refl}
use Rattle.closing.proofs.Defaults.{space_default}
use Rattle.closing.proofs.Withdrawn.{destroyed_by}
use Rattle.withdrawing.proofs.destroy_at.Goals as goal

pub returns : goal.returns
returns c =
    destroyed_by c.args.s.now c.args.slot c.requires.0 _ _ _ _ _ (space_default c.default.result c.default.ensures) c.permits_without.ensures c.entries_without.ensures c.cells_without.ensures refl
