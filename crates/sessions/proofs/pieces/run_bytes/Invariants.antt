use Rattle.std.specs.Prelude.{◌≡◌, ◌≤◌, length}
use Rattle.sessions.proofs.pieces.run_bytes.Given as goal

abbrev pub invariant-loop-byte : goal.invariant-loop-byte
invariant-loop-byte l = (length l.room ≡ length l.initial.room) × (length l.text ≡ length l.initial.text) × (l.run.at ≤ length l.text)
