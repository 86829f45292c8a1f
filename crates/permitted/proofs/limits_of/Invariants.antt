use Prim.Native.Nat.{◌+◌, ◌*◌, ◌≤◌, ◌<◌}
use mathlib.Core.Path.{◌≡◌}
use Rattle.permitted.specs.Columns.{owner_in, limit_at}
use Rattle.permitted.proofs.Tables.{Filling}
use Rattle.permitted.proofs.limits_of.Given as goal

abbrev pub invariant-loop-k : goal.invariant-loop-k
invariant-loop-k l = (l.u < 32) × (l.k ≤ 8) × (l.o ≡ owner_in l.tags l.u) × Filling l.limits (limit_at l.may l.tags) 256 (l.u * 8 + l.k)

abbrev pub invariant-loop-u : goal.invariant-loop-u
invariant-loop-u l = (l.u ≤ 32) × Filling l.limits (limit_at l.may l.tags) 256 (l.u * 8)
