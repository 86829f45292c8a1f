use Rattle.std.proofs.Common.{◌∙◌, arith}
use Rattle.fields.proofs.Bytewise.{no_number, number_low, number_high, alone_zero}
use Rattle.fields.proofs.number.Goals as goal

pub returns-in_err-get : goal.returns-in_err-get
returns-in_err-get c = c.from_residual.ensures ∙ no_number _ _ c.in_err-get.ensures.lookup.0

pub returns-in-48 : goal.returns-in-48
returns-in-48 c = let found = c.in_ok-get.ensures.lookup in alone_zero _ _ _ found.1 found.0 _ c.alone.ensures c.in-48.is

pub returns-in_default : goal.returns-in_default
returns-in_default c = let found = c.in_ok-get.ensures.lookup in number_low _ _ _ found.1 found.0 (omega arith)

pub returns-in_default-2 : goal.returns-in_default-2
returns-in_default-2 c = let found = c.in_ok-get.ensures.lookup in number_high _ _ _ found.1 found.0 (omega arith)
