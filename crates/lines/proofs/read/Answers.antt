use Rattle.std.proofs.Common.{ap, ◌∙◌}
use Rattle.std.specs.Option.{unwrap_or}
use Rattle.model.specs.declared.Request.TheVariants.{NotRead}
use Rattle.lines.proofs.Line.{line_long, line_unnamed, line_ends, line_unknown, line_call, line_known}
use Rattle.lines.proofs.read.Goals as goal

pub returns-then-line-gt600 : goal.returns-then-line-gt600
returns-then-line-gt600 c = search line_long

pub returns-in_err-name : goal.returns-in_err-name
returns-in_err-name c = ap (λ o. unwrap_or o NotRead) c.from_residual.ensures ∙ line_unnamed _ c.if-line-gt600.false c.in_err-name.ensures

pub returns-in_err-place : goal.returns-in_err-place
returns-in_err-place c =
    ap (λ o. unwrap_or o NotRead) c.from_residual-in_err-place.ensures ∙ line_unknown _ c.if-line-gt600.false _ c.in_ok-name.ensures c.in_err-place.ensures

pub arguments-requires : goal.arguments-requires
arguments-requires c = (line_call _ c.if-line-gt600.false _ c.in_ok-name.ensures c.type_inv.line _ c.in_ok-place.ensures, line_ends _ c.if-line-gt600.false _ c.in_ok-name.ensures)

pub returns : goal.returns
returns c = line_known _ c.if-line-gt600.false _ c.in_ok-name.ensures c.type_inv.line _ c.in_ok-place.ensures _ c.arguments.ensures
