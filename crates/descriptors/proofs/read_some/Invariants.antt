use Rattle.std.specs.Prelude.{◌≡◌, ◌≤◌, length}
use Rattle.descriptors.specs.Came.{bytes_got}
use Rattle.descriptors.proofs.read_some.Given as goal

abbrev pub invariant-loop : goal.invariant-loop
invariant-loop g l = (length l.room ≡ length l.fn.room) × (bytes_got l.last ≤ length l.fn.room)
