use borrow.Author.Rules.{rules}
use Rattle.cells.proofs.Clearing.{frames_none, frames_inside, front_inside, frames_gone, frames_twice}
use Rattle.cells.proofs.clear_frames.Goals as goal

pub returns-then-x-eq0 : goal.returns-then-x-eq0
returns-then-x-eq0 c = search frames_none

pub clear_run-requires : goal.clear_run-requires
clear_run-requires c = search (frames_inside, rules)

pub returns-then-x-lt16 : goal.returns-then-x-lt16
returns-then-x-lt16 c = search frames_gone

pub clear_run-requires-2 : goal.clear_run-requires-2
clear_run-requires-2 c = search (front_inside, rules)

pub clear_run-requires-3 : goal.clear_run-requires-3
clear_run-requires-3 c = search (frames_inside, rules)

pub returns : goal.returns
returns c = search frames_twice
