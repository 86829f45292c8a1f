use Prim.Native.Nat.{◌<◌}
use Rattle.pairs.proofs.Against.{Against}
use Rattle.pairs.proofs.apart_ok.Given as goal

abbrev pub invariant-loop-v : goal.invariant-loop-v
invariant-loop-v l = (l.u < 32) × Against l.spaces l.u l.v

abbrev pub invariant-loop-u : goal.invariant-loop-u
invariant-loop-u l = Against l.spaces l.u 0
