-- Each turn of the loop takes a part of the piece, since there is room for a reply.
use Rattle.std.specs.Prelude.{◌≡◌, ◌-◌, ◌≤◌, length}
use Rattle.sessions.proofs.pieces.Run.feed.Given as goal

abbrev pub invariant-loop-from : goal.invariant-loop-from
invariant-loop-from l =
    (600 ≤ length l.room) × (length l.room ≡ length l.initial.room) × (length l.text ≡ length l.initial.text) × (l.self.at ≤ length l.text) × (l.from ≤ length l.input)

abbrev pub decreases-loop-from : goal.decreases-loop-from
decreases-loop-from l = length l.input - l.from
