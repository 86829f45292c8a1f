use Prim.Native.Nat.{◌<◌}
use Rattle.lists.proofs.Loops.{Left}
use Rattle.listed.specs.Standings.{above_test}
use Rattle.listed.proofs.Passes.{untouched_at, above_at}
use Rattle.listed.proofs.above_ok.Given as goal

abbrev pub invariant-loop-k : goal.invariant-loop-k
invariant-loop-k l = Left (above_test l.guests l.entries) (above_at l.guests l.entries) l.k 8
