use Rattle.descriptors.proofs.Came.{moved_bytes, moved_none, moved_interrupted}
use Rattle.descriptors.proofs.moved_by.Goals as goal

pub returns-in-Ok : goal.returns-in-Ok
returns-in-Ok c = moved_bytes c.ranges.answer c.ranges.error _ _ _ c.in-Ok.ensures c.min.ensures

pub returns-in-Err : goal.returns-in-Err
returns-in-Err c = moved_interrupted c.ranges.answer c.ranges.error c.in-Err.ensures _ c.if-error-eq-INTERRUPTED.true

pub returns-in-Err-2 : goal.returns-in-Err-2
returns-in-Err-2 c =
    moved_none c.ranges.answer c.ranges.error c.in-Err-2.ensures _ _ _ c.if-error-eq-INTERRUPTED.false c.try_from-in-Err-2.ensures c.unwrap_or.ensures
