use Rattle.std.specs.Prelude.{◌≡◌, ◌≤◌, length}
use Rattle.sessions.proofs.files.read_full.Given as goal

abbrev pub invariant-loop : goal.invariant-loop
invariant-loop g l = (length l.room ≡ length l.initial.room) × (l.at ≤ length l.room)
