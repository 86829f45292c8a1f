use Rattle.std.proofs.Common.{◌≡◌, ◌≤◌, length, map}
use Rattle.model.specs.Written.{takes_fields}
use Rattle.fields.specs.Fields.{kind_of}
use Rattle.writing.proofs.takes_fields.Given as goal

abbrev pub invariant-loop-kind : goal.invariant-loop-kind
invariant-loop-kind l =
    let kinds = l.kind-iterator.a.rest.now in
    let values = l.kind-iterator.b.rest.now in
    (length kinds ≤ length values) × (takes_fields (map kind_of l.kinds) l.values l.lent ≡ takes_fields (map kind_of kinds) values l.lent)
