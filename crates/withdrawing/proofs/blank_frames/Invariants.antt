-- The loop has made the frames of the guest's data spaces blank, in the slots below the one that it comes to.
use Prim.Native.Nat.{◌≤◌}
use mathlib.Core.Path.{◌≡◌}
use Rattle.model.specs.Changes.{blanked}
use Rattle.model.specs.Searches.{is_data}
use Rattle.frames.specs.Runs.{slots_of}
use Rattle.frames.proofs.Freeing.{freed_below}
use Rattle.withdrawing.proofs.blank_frames.Given as goal

abbrev pub invariant-loop-x : goal.invariant-loop-x
invariant-loop-x l = (l.x-index ≤ 32) × (l.cells ≡ blanked (freed_below l.spaces (slots_of (is_data l.guest) l.spaces) l.x-index) l.initial.cells)
