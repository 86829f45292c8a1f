use Rattle.std.proofs.Common.{arith}
use Rattle.descriptors.proofs.Came.{came_so, came_most, written_on, written_interrupted, written_failed}
use Rattle.descriptors.proofs.write_came.Goals as goal

pub overflow_add-result : goal.overflow_add-result
overflow_add-result c = omega (arith, came_most _ _ _ _ c.in-Ok.ensures)

pub returns-in-Ok : goal.returns-in-Ok
returns-in-Ok c = written_on _ _ _ (came_so c.ranges.answer c.ranges.error _ _ c.in-Ok.ensures)

pub returns-in-Err-Interrupted : goal.returns-in-Err-Interrupted
returns-in-Err-Interrupted c = written_interrupted _ _ _ (came_so c.ranges.answer c.ranges.error _ _ c.in-Err-Interrupted.ensures) c.in-Err-Interrupted.field-0-is

pub returns-in-Err-Failed : goal.returns-in-Err-Failed
returns-in-Err-Failed c = written_failed _ _ _ _ (came_so c.ranges.answer c.ranges.error _ _ c.in-Err-Failed.ensures) c.in-Err-Failed.field-0-is
