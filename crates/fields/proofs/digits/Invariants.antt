use Rattle.std.proofs.Common.{◌≡◌, true}
use Rattle.model.specs.Lines.{plain}
use Rattle.fields.specs.Fields.{field_from}
use Rattle.fields.proofs.Readings.{Decimal}
use Rattle.fields.proofs.digits.Given as goal

abbrev pub invariant-loop-i : goal.invariant-loop-i
invariant-loop-i l = Decimal l.line l.start l.v l.i × (plain (field_from l.line l.start) ≡ true)
