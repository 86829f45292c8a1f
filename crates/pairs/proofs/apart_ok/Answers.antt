use mathlib.Core.Bool.{not}
use mathlib.Core.Path.{ap}
use Rattle.pairs.proofs.Against.{against_start, against_go, against_row, against_stop, against_done}
use Rattle.pairs.proofs.apart_ok.Goals as goal

pub loop-u-init : goal.loop-u-init
loop-u-init c = against_start _

pub returns-then-not-pair_ok : goal.returns-then-not-pair_ok
returns-then-not-pair_ok c = search against_stop

pub loop-v-preserved : goal.loop-v-preserved
loop-v-preserved c = let i = c.loop-v.invariant in (i.0, against_go _ _ _ i.1 _ c.pair_ok.ensures (ap not c.if-not-pair_ok.false))

pub loop-u-preserved : goal.loop-u-preserved
loop-u-preserved c = search against_row

pub returns : goal.returns
returns c = search against_done
