use Rattle.std.proofs.Common.{◌-◌, ◌≤◌}
use Rattle.fields.proofs.Readings.{Bytes, Letters}
use Rattle.fields.proofs.name.Given as goal

abbrev pub invariant-loop-i : goal.invariant-loop-i
invariant-loop-i l = Letters l.line l.start l.v l.i × Bytes l.line × (l.i - l.start ≤ 8)
