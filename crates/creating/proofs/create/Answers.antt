use mathlib.Core.Path.{refl}
use Rattle.making.proofs.Done.{refuses, slot_low, next_low, run_inside, frames_small}
use Rattle.creating.proofs.Created.{create_done, create_sound}
use Rattle.creating.proofs.create.Goals as goal

pub decide-requires : goal.decide-requires
decide-requires c = search (frames_small, c.args.s.now.held)

pub settle-requires : goal.settle-requires
settle-requires c = (search slot_low, search next_low, search run_inside)

pub returns-in-Err : goal.returns-in-Err
returns-in-Err c = record { same_state = refl; carried = search refuses }

pub returns-in-Ok : goal.returns-in-Ok
returns-in-Ok c = record { same_state = refl; carried = search (create_done, c.args.s.now.held) }

pub invariant_of-s : goal.invariant_of-s
invariant_of-s c = record { held = search (create_sound, c.args.s.now.held) }
