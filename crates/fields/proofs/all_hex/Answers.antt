use Rattle.std.proofs.Common.{arith, rules}
use borrow.Author.Tests.{not-false, not-true}
use Rattle.fields.proofs.HexDigits.{hex_until}
use Rattle.fields.proofs.all_hex.Goals as goal

pub returns : goal.returns
returns c =
    hex_until _ _ (omega arith)
    (λ k l. let f = c.find_by.ensures.before k (omega arith) l in search (rules, not-false, not-true))
    (λ l. let f = c.find_by.ensures.found l in search (rules, not-false, not-true))
