use Rattle.std.proofs.Common.{arith, eqb, get_or, rules}
use Rattle.moves.proofs.Blocks.{first_is}
use Rattle.moves.proofs.find.Goals as goal

pub returns : goal.returns
returns c = (
  first_is (λ k. eqb (get_or c.args.bytes.now k 0) c.args.b) _ _ _ (omega arith) (omega arith)
      (λ k x y. let f = c.find_by.ensures.before k x y in search rules)
      (λ h. let f = c.find_by.ensures.found h in search rules),
  omega arith,
  omega arith,
)
