use Rattle.std.proofs.Common.{◌≤◌}
use Rattle.fields.proofs.Readings.{Bytes, Word}
use Rattle.fields.proofs.word.Given as goal

abbrev pub invariant-loop-end : goal.invariant-loop-end
invariant-loop-end l = Word l.line 0 l.value l.end × Bytes l.line × (l.end ≤ 7)
