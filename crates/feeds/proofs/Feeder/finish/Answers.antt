use Rattle.std.proofs.Common.{arith}
use Rattle.feeds.specs.Fed.{full}
use Rattle.feeds.proofs.Ending.{none_held, some_held}
use Rattle.feeds.proofs.Feeder.finish.Goals as goal

pub returns-then-out-lt600 : goal.returns-then-out-lt600
returns-then-out-lt600 g c = full (omega arith)

pub returns-then-self-eq0 : goal.returns-then-self-eq0
returns-then-self-eq0 g c = none_held _ _ _ _ _ _ _ (omega arith) (g.met.W.LineWork.lent _ _) c.if-self-eq0.true

pub returns : goal.returns
returns g c = let l = c.last_line.ensures in some_held _ _ _ _ _ _ _ (omega arith) c.told-held c.if-self-eq0.false _ _ _ l.said l.scratch
