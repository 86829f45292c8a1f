use Rattle.std.proofs.Common.{◌∙◌, ap, arith}
use Rattle.std.specs.Option.{unwrap_or}
use Rattle.model.specs.declared.Request.TheVariants.{NotRead}
use Rattle.lines.proofs.Taken.{taken_none, taken_short, taken_bad, taken_turn, taken_over, taken_made}
use Rattle.lines.proofs.arguments.Goals as goal

pub loop-k-init : goal.loop-k-init
loop-k-init c = search (taken_none, arith)

pub returns-then-line-end : goal.returns-then-line-end
returns-then-line-end c = search taken_short

pub returns-in_err-field : goal.returns-in_err-field
returns-in_err-field c = ap (λ o. unwrap_or o NotRead) c.from_residual.ensures ∙ taken_bad _ _ _ _ _ _ _ c.loop-k.invariant c.loop-k-test.true _ c.if-line-end.false c.in_err-field.ensures

pub loop-k-preserved : goal.loop-k-preserved
loop-k-preserved c = taken_turn _ _ _ _ _ _ _ c.loop-k.invariant c.loop-k-test.true _ c.if-line-end.false _ c.in_ok-field.ensures

pub returns-then-end-line : goal.returns-then-end-line
returns-then-end-line c = search taken_over

pub returns : goal.returns
returns c = search taken_made
