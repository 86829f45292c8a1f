use Prim.Native.Nat.{◌+◌}
use Rattle.apart.specs.Warns.{ClearIn}
use Rattle.apart.proofs.Warns.{Sum}
use Rattle.apart.proofs.quick.Columns.clashes_at.Given as goal

abbrev pub invariant-loop-u : goal.invariant-loop-u
invariant-loop-u l = Sum (λ k. ClearIn l.self k (k + l.d)) 3 32 l.u l.n
