use borrow.Author.Rules.{rules}
use Rattle.permitted.proofs.Tables.{fill_start, fills}
use Rattle.lists.proofs.Rules.{is_of}
use Rattle.lists.proofs.Loops.{left_every, left_go}
use Rattle.sound.proofs.SlotLoop.{slot_is, slots_stop, slots_done}
use Rattle.sound.proofs.table.tags_of.Goals as goal

pub loop-i-init : goal.loop-i-init
loop-i-init c = (left_every _ _, fill_start _ _ 32 (search rules))

pub returns-then-not-slot_ok : goal.returns-then-not-slot_ok
returns-then-not-slot_ok c = search (slots_stop, slot_is, is_of, rules) depth 6

pub loop-i-preserved : goal.loop-i-preserved
loop-i-preserved c = (search (left_go, slot_is, is_of, rules) depth 6, search fills)

pub returns : goal.returns
returns c = search (slots_done, rules)
