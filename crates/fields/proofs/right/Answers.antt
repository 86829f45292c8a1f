use Rattle.std.proofs.Common.{◌∙◌, arith}
use Rattle.fields.proofs.Bytewise.{no_right, alone_read, alone_write, right_bad}
use Rattle.fields.proofs.right.Goals as goal

pub returns-in_err-get : goal.returns-in_err-get
returns-in_err-get c = c.from_residual.ensures ∙ no_right _ _ c.in_err-get.ensures.lookup.0

pub returns-in-82 : goal.returns-in-82
returns-in-82 c = let found = c.in_ok-get.ensures.lookup in alone_read _ _ _ found.1 found.0 _ c.alone.ensures c.in-82.is

pub returns-in-87 : goal.returns-in-87
returns-in-87 c = let found = c.in_ok-get.ensures.lookup in alone_write _ _ _ found.1 found.0 _ c.alone-in-87.ensures c.in-87.is

pub returns-in_default : goal.returns-in_default
returns-in_default c = let found = c.in_ok-get.ensures.lookup in right_bad _ _ _ found.1 found.0 (λ e. omega arith) (λ e. omega arith)
