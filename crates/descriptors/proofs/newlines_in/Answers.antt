use Rattle.std.proofs.Common.{rules}
use Rattle.descriptors.proofs.Newlines.{newlines_counted, newlines_most}
use Rattle.descriptors.proofs.newlines_in.Goals as goal

pub returns : goal.returns
returns c = search (rules, newlines_counted, newlines_most)
