use Rattle.std.specs.Prelude.{◌≤◌, length}
use Rattle.descriptors.proofs.send.Given as goal

abbrev pub invariant-loop : goal.invariant-loop
invariant-loop g l = l.at ≤ length l.bytes
