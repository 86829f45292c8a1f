use Rattle.std.proofs.Common.{rules}
use Rattle.closing.proofs.Defaults.{permit_default}
use Rattle.closing.proofs.Filled.{permits_gone}
use Rattle.closing.proofs.permits_without.Goals as goal

pub returns : goal.returns
returns c = permits_gone _ _ _ _ c.requires c.told-permits (permit_default _ c.default.ensures) (c.fill.ensures.after (λ y h. search rules))
