use Rattle.std.proofs.lemmas.Result.{err_from_is_err_and}
use Rattle.descriptors.proofs.Came.{came_so, read_none, read_end, read_bytes}
use Rattle.descriptors.proofs.read_came.Goals as goal

pub returns-in_err-n : goal.returns-in_err-n
returns-in_err-n c =
    let p = err_from_is_err_and c.from_residual.result c.from_residual.ensures.1 in
    rw (p.1, p.2) (read_none _ _ (came_so c.ranges.answer c.ranges.error _ _ c.in_err-n.ensures))

pub returns-then-n-eq0 : goal.returns-then-n-eq0
returns-then-n-eq0 c = read_end _ _ (came_so c.ranges.answer c.ranges.error _ _ c.in_ok-n.ensures) c.if-n-eq0.true

pub returns : goal.returns
returns c = read_bytes _ _ (came_so c.ranges.answer c.ranges.error _ _ c.in_ok-n.ensures) c.if-n-eq0.false
