use Rattle.std.specs.Prelude.{◌≡◌, length}
use Rattle.sessions.proofs.pieces.first_bad_room.Given as goal

abbrev pub invariant-loop-size : goal.invariant-loop-size
invariant-loop-size l = length l.text ≡ length l.initial.text
