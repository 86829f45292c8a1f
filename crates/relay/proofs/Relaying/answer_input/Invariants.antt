-- The work came over all pieces before, in turn.
use Rattle.std.specs.Prelude.{◌≡◌, length}
use Rattle.relay.specs.Relaying.{standing}
use Rattle.relay.proofs.Joined.{Came}
use Rattle.relay.proofs.Relaying.answer_input.Given as goal

abbrev pub invariant-loop : goal.invariant-loop
invariant-loop g l = record {
  scratch : length l.scratch ≡ length l.initial.scratch;
  room : length l.room ≡ length l.initial.room;
  came : Came (standing l.initial.self l.initial.scratch) 0 0 l.self.taken l.self.written (standing l.self l.scratch);
}
