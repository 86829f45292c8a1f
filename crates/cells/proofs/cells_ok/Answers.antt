use Rattle.cells.proofs.Clearing.{fits_at, used_start, used_go, used_end}
use Rattle.cells.proofs.Whole.{all_blank, key_high, rest_blank}
use borrow.Author.Rules.{rules}
use Rattle.cells.proofs.cells_ok.Goals as goal

pub returns-then-most-eq0 : goal.returns-then-most-eq0
returns-then-most-eq0 c = search (all_blank, rules)

pub returns-then-most-gt15 : goal.returns-then-most-gt15
returns-then-most-gt15 c = search (key_high, rules)

pub loop-x-init : goal.loop-x-init
loop-x-init c = used_start _ _ c.weights_of-weights.ensures.long

pub clear_frames-requires : goal.clear_frames-requires
clear_frames-requires c = search (fits_at, rules)

pub loop-x-preserved : goal.loop-x-preserved
loop-x-preserved c = search used_go

pub returns : goal.returns
returns c = rest_blank _ _ (search rules) _ c.weights_of-weights.ensures _ c.heaviest-most.ensures c.if-most-gt15.false _ _ (used_end _ _ _ _ c.loop-x.invariant (search rules)) c.heaviest.ensures
