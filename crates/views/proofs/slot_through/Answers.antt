use mathlib.Core.Path.{refl}
use Rattle.views.specs.Search.{slot_in, slot_sought}
use Rattle.views.proofs.Told.{through_primary, through_entry, through_none}
use Rattle.views.proofs.slot_through.Goals as goal

pub returns-then-token-eq0 : goal.returns-then-token-eq0
unfolding slot_sought
returns-then-token-eq0 c = search through_primary

pub returns-in-Valid : goal.returns-in-Valid
unfolding slot_in
returns-in-Valid c = search through_entry

pub returns-in-Unused : goal.returns-in-Unused
returns-in-Unused c = through_none _ _ _ _ _ c.if-token-eq0.false c.in-Unused.is refl
