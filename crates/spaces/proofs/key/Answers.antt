use Rattle.std.proofs.Common.{rules}
use Rattle.model.specs.declared.Operation.TheVariants.{Key}
use Rattle.spaces.proofs.Ready.{checks, told}
use Rattle.spaces.proofs.key.Goals as goal

pub returns : goal.returns
returns c =
    checks _ _ (Key c.args.key) _ _ tt tt tt c.checked.ensures.unready
    (λ t. let h = c.checked.ensures.made t in let r = h.2 in let e = r.met in told r.shows r.leaves h.3 h.4 (search rules))
