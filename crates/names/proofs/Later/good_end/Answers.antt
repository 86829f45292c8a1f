use Rattle.names.proofs.Blanks.{rests}
use Rattle.names.proofs.Later.good_end.Goals as goal

pub returns-then-not-has : goal.returns-then-not-has
returns-then-not-has c = search rests depth 12

pub returns-then-not-has-2 : goal.returns-then-not-has-2
returns-then-not-has-2 c = search rests depth 12

pub returns-then-not-has-3 : goal.returns-then-not-has-3
returns-then-not-has-3 c = search rests depth 12

pub returns-then-not-has-4 : goal.returns-then-not-has-4
returns-then-not-has-4 c = search rests depth 12

pub returns : goal.returns
returns c = search rests depth 12
