use Rattle.model.specs.SoundTest.{slot_test}
use Rattle.model.specs.Tables.{space_at}
use Rattle.sound.specs.Columns.{tag_at, slots_test}
use Rattle.permitted.proofs.Tables.{Filling}
use Rattle.lists.proofs.Loops.{Left}
use Rattle.sound.proofs.table.tags_of.Given as goal

abbrev pub invariant-loop-i : goal.invariant-loop-i
invariant-loop-i l = Left (slots_test l.frames l.next l.guests l.spaces) (λ u. slot_test l.frames l.next l.guests (space_at l.spaces u)) l.i 32 × Filling l.tags (tag_at l.spaces) 32 l.i
