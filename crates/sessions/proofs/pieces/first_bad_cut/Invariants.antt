use Rattle.std.specs.Prelude.{◌≡◌, length}
use Rattle.sessions.proofs.pieces.first_bad_cut.Given as goal

abbrev pub invariant-loop-cut : goal.invariant-loop-cut
invariant-loop-cut l = (length l.room ≡ length l.initial.room) × (length l.text ≡ length l.initial.text)
