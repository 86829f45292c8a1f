use native.Mathlib.Omega.{arith}
use Rattle.lookup.proofs.Found.{found_low, found_none}
use Rattle.making.proofs.Checks.{no_slot, spent, no_run, at_slot}
use Rattle.making.proofs.place.Goals as goal

pub returns-in_default : goal.returns-in_default
returns-in_default c = search (no_slot, found_none)

pub returns-then-next-ge65536 : goal.returns-then-next-ge65536
returns-then-next-ge65536 c = search spent

pub returns-then-frames-first : goal.returns-then-frames-first
returns-then-frames-first c = search no_run

pub overflow_cast-result : goal.overflow_cast-result
overflow_cast-result c = record { fits = omega (arith, found_low 32 _ _ c.free_slot.ensures _ c.in-Some.is) }

pub returns : goal.returns
returns c = search at_slot
