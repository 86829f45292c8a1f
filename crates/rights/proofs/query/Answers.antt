use mathlib.Core.Path.{ap}
use Rattle.edits.specs.declared.Edited.{Edited}
use Rattle.edits.proofs.Kept.{seen_told, seen_decided}
use Rattle.rights.proofs.query.Goals as goal

pub returns-clause-value : goal.returns-clause-value
returns-clause-value c = search (seen_told, c.from.ensures, c.args.s.now.held)

pub returns-clause-seen : goal.returns-clause-seen
returns-clause-seen c = seen_decided _ _ _ _ _ c.seen_by-v.ensures c.decide_query.ensures (ap (λ (e : Edited). e.answer) c.from.ensures)
