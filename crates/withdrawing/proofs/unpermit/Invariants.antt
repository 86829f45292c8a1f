-- The loop has taken the closed permits below place k.
use Prim.Native.Nat.{◌≤◌}
use mathlib.Core.Path.{◌≡◌}
use Rattle.lists.proofs.Maps.{map_below}
use Rattle.lists.specs.Choice.{choose}
use Rattle.model.specs.Changes.{permit_slot}
use Rattle.model.specs.Leaves.{flag}
use Rattle.model.specs.Tables.{no_permit}
use Rattle.withdrawing.proofs.unpermit.Given as goal

abbrev pub invariant-loop-k : goal.invariant-loop-k
invariant-loop-k l = (l.k ≤ 256) × (l.permits ≡ map_below (λ j p. choose (flag l.closed (permit_slot j)) no_permit p) l.k l.initial.permits)
