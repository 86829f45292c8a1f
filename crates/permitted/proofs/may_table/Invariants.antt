use Prim.Native.Nat.{◌+◌, ◌*◌, ◌≤◌, ◌<◌}
use Rattle.permitted.specs.Columns.{may_at}
use Rattle.permitted.proofs.Tables.{Filling}
use Rattle.permitted.proofs.may_table.Given as goal

abbrev pub invariant-loop-k : goal.invariant-loop-k
invariant-loop-k l = (l.i < 8) × (l.k ≤ 8) × Filling l.t (may_at l.guests) 128 ((l.i + 1) * 8 + l.k)

abbrev pub invariant-loop-i : goal.invariant-loop-i
invariant-loop-i l = (l.i ≤ 8) × Filling l.t (may_at l.guests) 128 ((l.i + 1) * 8)
