-- One loop goes through the lists below the one that is kept, one through those above it.
use Prim.Native.Nat.{◌+◌, ◌*◌, ◌≤◌}
use lib.Dec.{eqb}
use Rattle.model.specs.Changes.{revoked}
use Rattle.closing.proofs.Ranges.{Ranged}
use Rattle.closing.proofs.entries_without.Given as goal

abbrev pub invariant-loop-k : goal.invariant-loop-k
invariant-loop-k l = (l.k ≤ l.list * 30) × Ranged (revoked (eqb l.slot)) 0 l.k l.initial.entries l.entries

abbrev pub invariant-loop-k-2 : goal.invariant-loop-k-2
invariant-loop-k-2 l = Ranged (revoked (eqb l.slot)) (l.list * 30 + 30) l.k l.initial.entries l.entries
