use Prim.Native.Nat.{◌+◌}
use Rattle.apart.specs.Warns.{ClearAt}
use Rattle.apart.proofs.Warns.{Sum}
use Rattle.apart.proofs.quick.Columns.clashes.Given as goal

abbrev pub invariant-loop-d : goal.invariant-loop-d
invariant-loop-d l = Sum (λ k. ClearAt l.self (k + 1)) 96 16 l.d l.n
