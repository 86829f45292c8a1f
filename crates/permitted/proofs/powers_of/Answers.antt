use Rattle.std.proofs.Common.{rules}
use Rattle.permitted.proofs.Permits.{permits_stop, permits_done}
use Rattle.permitted.proofs.powers_of.Goals as goal

pub returns-then-not-all_within : goal.returns-then-not-all_within
returns-then-not-all_within c = search (permits_stop, rules)

pub returns : goal.returns
returns c = search (permits_done, rules)
