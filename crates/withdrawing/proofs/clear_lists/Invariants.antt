-- The loop has changed the entries below place k, each by what stands where it looks.
use Prim.Native.Nat.{◌≤◌}
use mathlib.Core.Path.{◌≡◌}
use lib.Dec.{eqb}
use Rattle.lists.specs.Choice.{choose}
use Rattle.lists.proofs.Maps.{map_below}
use Rattle.model.specs.Changes.{released, revoked, list_owner}
use Rattle.model.specs.Leaves.{flag}
use Rattle.withdrawing.proofs.clear_lists.Given as goal

abbrev pub invariant-loop-k : goal.invariant-loop-k
invariant-loop-k l = (l.k ≤ 240) × (l.entries ≡ map_below (λ j e. choose (eqb (list_owner j) l.guest) (released e) (revoked (flag l.closed) e)) l.k l.initial.entries)
