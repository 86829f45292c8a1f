use mathlib.Core.Path.{refl}
use Rattle.making.proofs.Done.{refuses, slot_low, next_low, run_inside, frames_small}
use Rattle.enrolling.proofs.Enrolled.{enrol_decides, number_low, place_low, allowance_fits, list_fits, enrol_done, enrol_sound}
use Rattle.enrolling.proofs.enrol.Goals as goal

pub decide-requires : goal.decide-requires
decide-requires c = search (frames_small, c.args.s.now.held)

pub overflow_sub-caller : goal.overflow_sub-caller
overflow_sub-caller c = search number_low

pub new_guest-requires : goal.new_guest-requires
new_guest-requires c = (search allowance_fits, search list_fits)

pub bounds-s-caller : goal.bounds-s-caller
bounds-s-caller c = search place_low

pub settle-requires : goal.settle-requires
settle-requires c = (search (slot_low, enrol_decides), search (next_low, enrol_decides), search (run_inside, enrol_decides))

pub returns-in-Err : goal.returns-in-Err
returns-in-Err c = record { same_state = refl; carried = search (refuses, enrol_decides) }

pub returns-in-Ok : goal.returns-in-Ok
returns-in-Ok c = record { same_state = refl; carried = search (enrol_done, c.args.s.now.held) }

pub invariant_of-s : goal.invariant_of-s
invariant_of-s c = record { held = search (enrol_sound, c.args.s.now.held) }
