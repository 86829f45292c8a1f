-- Check 1 of a session: the first frames of the lent scratch are the machine's. Assumes nothing.
use Prim.Native.Nat.{ℕ, ◌+◌, ◌*◌, ◌≤◌}
use mathlib.Core.Bool.{Bool, true}
use mathlib.Core.List.{List, ◌++◌}
use mathlib.Core.Path.{◌≡◌, sym, ap, ◌∙◌}
use native.Mathlib.Omega.{arith}
use lib.ListN.{length, take, drop, length-append}
use borrow.Author.Tests.{leb-true, le-leb}
use Rattle.lists.specs.Bytes.{over}
use Rattle.lists.specs.Choice.{both}
use Rattle.lists.proofs.Choice.{both_left, both_right, both_intro}
use Rattle.lists.proofs.Parts.{take_enough}
use Rattle.model.specs.declared.State.{State}
use Rattle.model.specs.Calls.{ready}
use Rattle.model.specs.SoundTest.{sound}
use Rattle.model.specs.Step.{Ready}
use Rattle.model.proofs.SoundTest.{sound_decides}
use Rattle.ready.specs.Usable.{usable}

-- it is the model's check 1 of the machine
pub usable_ready : (s : State) (m : List ℕ) → usable s (length m) ≡ ready s (length (take (s.frames * 4096) m))
unfolding ready
usable_ready s m = ap (both (sound s)) (take_enough (s.frames * 4096) m)

-- what a test of it has found
module _ (s : State) (m : List ℕ) (x : Bool) (e : x ≡ usable s (length m)) (t : x ≡ true) where
  holds : usable s (length m) ≡ true
  holds = sym e ∙ t

  pub usable_sound : sound s ≡ true
  usable_sound = both_left (sound s) _ holds

  pub usable_room : s.frames * 4096 ≤ length m
  usable_room = leb-true _ _ (both_right (sound s) _ holds)

-- it holds of what a ready machine is put back into
pub usable_back : (s : State) (m x : List ℕ) → Ready (record { tables = s; scratch = x }) → usable s (length (over m 0 x)) ≡ true
unfolding over
usable_back s m x r =
    let l : length (x ++ drop (0 + length x) m) ≡ length x + length (drop (0 + length x) m) = length-append x _ in
    both_intro _ _ ((sound_decides s).of r.sound) (le-leb (s.frames * 4096) (length (x ++ drop (0 + length x) m)) (omega (arith, r.room)))
