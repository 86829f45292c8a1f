-- Each turn of the loop takes a part of the piece, since there is room for a reply.
use Rattle.std.specs.Prelude.{◌≡◌, ◌-◌, length}
use Rattle.relay.specs.Relaying.{standing}
use Rattle.relay.proofs.Parts.{Parts}
use Rattle.relay.proofs.Relaying.answer_piece.Given as goal

abbrev pub invariant-loop-from : goal.invariant-loop-from
invariant-loop-from g l = record {
  taken : l.self.taken ≡ l.initial.self.taken;
  scratch : length l.scratch ≡ length l.initial.scratch;
  parts : Parts (standing l.initial.self l.initial.scratch) l.input l.initial.self.written l.from l.self.written (standing l.self l.scratch);
}

abbrev pub decreases-loop-from : goal.decreases-loop-from
decreases-loop-from g l = length l.input - l.from
