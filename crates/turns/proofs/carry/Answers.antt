use mathlib.Core.Path.{sym}
use Rattle.turns.proofs.Filled.{part_within, part_long}
use Rattle.turns.proofs.Turned.{early, unready, call_room, call_sound, call_part, carried_taken, carried_beyond}
use Rattle.turns.proofs.Seen.{early_seen, unready_seen, served_seen}
use Rattle.turns.proofs.carry.Goals as goal

pub returns-then-not-host-clause-taken : goal.returns-then-not-host-clause-taken
returns-then-not-host-clause-taken c = search early

pub returns-then-not-host-2-clause-taken : goal.returns-then-not-host-2-clause-taken
returns-then-not-host-2-clause-taken c = search unready

pub slice_bounds-serve-end : goal.slice_bounds-serve-end
slice_bounds-serve-end c = search call_room

pub slice_bounds-serve-end-2 : goal.slice_bounds-serve-end-2
slice_bounds-serve-end-2 c = search call_part

pub slice_bounds-serve-end-3 : goal.slice_bounds-serve-end-3
slice_bounds-serve-end-3 c = search part_within

pub slice_bounds-serve-end-4 : goal.slice_bounds-serve-end-4
slice_bounds-serve-end-4 c = search part_long

pub serve-answer-requires : goal.serve-answer-requires
serve-answer-requires c = sym (search call_part)

pub returns-clause-taken : goal.returns-clause-taken
returns-clause-taken c = search carried_taken

pub returns-then-not-host-clause-seen : goal.returns-then-not-host-clause-seen
returns-then-not-host-clause-seen c = search early_seen

pub returns-then-not-host-2-clause-seen : goal.returns-then-not-host-2-clause-seen
returns-then-not-host-2-clause-seen c = search unready_seen

pub returns-clause-seen : goal.returns-clause-seen
returns-clause-seen c = search served_seen

pub returns-clause-beyond : goal.returns-clause-beyond
returns-clause-beyond c = search carried_beyond

pub invariant_of-serve : goal.invariant_of-serve
invariant_of-serve c = record { held = search call_sound }
