-- The loop has marked the slots below u.
use Prim.Native.Nat.{◌≤◌}
use mathlib.Core.Path.{◌≡◌}
use Rattle.model.specs.Searches.{is_owned}
use Rattle.frames.specs.Runs.{slots_of}
use Rattle.withdrawing.proofs.Sets.{slots_below}
use Rattle.withdrawing.proofs.owned_slots.Given as goal

abbrev pub invariant-loop-u : goal.invariant-loop-u
invariant-loop-u l = (l.u ≤ 32) × (l.t ≡ slots_below (slots_of (is_owned l.owner) l.spaces) l.u)
