use Rattle.letters.proofs.Blanks.{trimmed_found, trimmed_more, trimmed_none}
use Rattle.letters.proofs.unpadded.Goals as goal

pub returns-then-last-ne32 : goal.returns-then-last-ne32
returns-then-last-ne32 c = trimmed_found _ _ c.loop-last.invariant _ _ c.in-Some.ensures.cases.0 c.if-last-ne32.true

pub loop-last-preserved : goal.loop-last-preserved
loop-last-preserved c = trimmed_more _ _ c.loop-last.invariant _ _ c.in-Some.ensures.cases.0 c.if-last-ne32.false

pub returns : goal.returns
returns c = trimmed_none _ _ c.loop-last.invariant c.in_default.ensures.cases
