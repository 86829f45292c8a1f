use Rattle.sound.proofs.Whole.{head_no, slots_no, apart_no, guests_no, permits_no, entries_no, cells_say, owners_yes, cells_fit, passed}
use Rattle.sound.proofs.is_sound.Goals as goal

pub returns-then-not-head_ok : goal.returns-then-not-head_ok
returns-then-not-head_ok c = search head_no

pub returns-in_default : goal.returns-in_default
returns-in_default c = search (slots_no, passed) depth 10

pub returns-then-not-all_apart : goal.returns-then-not-all_apart
returns-then-not-all_apart c = search (apart_no, passed) depth 10

pub returns-then-not-guests_ok : goal.returns-then-not-guests_ok
returns-then-not-guests_ok c = search (guests_no, passed) depth 10

pub powers_of-requires : goal.powers_of-requires
powers_of-requires c = search (owners_yes, passed) depth 10

pub returns-in_default-powers_of : goal.returns-in_default-powers_of
returns-in_default-powers_of c = search (permits_no, passed) depth 10

pub returns-else-entries_ok : goal.returns-else-entries_ok
returns-else-entries_ok c = search (entries_no, passed) depth 10

pub cells_ok-requires : goal.cells_ok-requires
cells_ok-requires c = search (cells_fit, passed) depth 10

pub returns-then-entries_ok : goal.returns-then-entries_ok
returns-then-entries_ok c = search (cells_say, passed) depth 12
