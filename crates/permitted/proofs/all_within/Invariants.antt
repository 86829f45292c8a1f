use Rattle.std.proofs.Common.{◌≡◌, get_or}
use lib.Dec.{leb}
use Rattle.lists.specs.Places.{every}
use Rattle.permitted.proofs.all_within.Given as goal

abbrev pub invariant-loop-k : goal.invariant-loop-k
invariant-loop-k l = l.within ≡ every (λ j. leb (get_or l.numbers j 0) (get_or l.limits j 0)) l.k
