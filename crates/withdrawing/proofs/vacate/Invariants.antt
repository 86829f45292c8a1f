-- The loop has vacated the guest's data slots below u.
use Prim.Native.Nat.{◌≤◌}
use mathlib.Core.Path.{◌≡◌}
use Rattle.lists.specs.Choice.{choose}
use Rattle.lists.proofs.Maps.{map_below}
use Rattle.model.specs.Searches.{is_data}
use Rattle.model.specs.Tables.{no_space}
use Rattle.withdrawing.proofs.vacate.Given as goal

abbrev pub invariant-loop-x : goal.invariant-loop-x
invariant-loop-x l = (l.x-index ≤ 32) × (l.spaces ≡ map_below (λ v x. choose (is_data l.guest x) no_space x) l.x-index l.initial.spaces)
