use Rattle.std.proofs.Common.{rules, refl, arith, length-take}
use Rattle.std.proofs.lemmas.Result.{err_from_is_err_and}
use Rattle.descriptors.proofs.Came.{got_count}
use Rattle.relay.proofs.Joined.{came_start, came_more, came_fail, came_stop, came_taken, came_written}
use Rattle.relay.proofs.Relaying.answer_input.Goals as goal

pub loop-init : goal.loop-init
loop-init g c = record { scratch = refl; room = refl; came = came_start _ c.requires.0 c.requires.1 }

pub slice_bounds-answer_piece-end : goal.slice_bounds-answer_piece-end
slice_bounds-answer_piece-end g c = omega (arith, got_count c.in-Ok-Some.field-0-is c.in-Ok-Some.ensures)

pub slice_bounds-answer_piece-end-in-Ok-Some : goal.slice_bounds-answer_piece-end-in-Ok-Some
slice_bounds-answer_piece-end-in-Ok-Some g c = simp length-take (omega (arith, got_count c.in-Ok-Some.field-0-is c.in-Ok-Some.ensures))

pub returns-in_err-answer_piece-in-Ok-Some : goal.returns-in_err-answer_piece-in-Ok-Some
returns-in_err-answer_piece-in-Ok-Some g c =
    let p = err_from_is_err_and c.from_residual.result c.from_residual.ensures.1 in
    let e = c.in_err-answer_piece-in-Ok-Some.ensures in
    rw (p.1, p.2) (came_fail c.loop.invariant.came e.taken e.piece (simp length-take (omega (arith, got_count c.in-Ok-Some.field-0-is c.in-Ok-Some.ensures))))

pub returns-in_default : goal.returns-in_default
returns-in_default g c = came_stop c.loop.invariant.came c.stop.ensures.ran

pub loop-preserved : goal.loop-preserved
loop-preserved g c =
    let e = c.in_ok-answer_piece-in-Ok-Some.ensures in
    record { scratch = search rules; room = search rules; came = came_more c.loop.invariant.came e.taken e.piece (simp length-take (omega (arith, got_count c.in-Ok-Some.field-0-is c.in-Ok-Some.ensures))) }

pub returns : goal.returns
returns g c = came_stop c.loop.invariant.came c.stop-2.ensures.ran

pub stop-requires : goal.stop-requires
stop-requires g c = let k = c.loop.invariant.came in (came_taken k, came_written k)

pub stop-requires-2 : goal.stop-requires-2
stop-requires-2 g c = let k = c.loop.invariant.came in (came_taken k, came_written k)

pub answer_piece-requires : goal.answer_piece-requires
answer_piece-requires g c = came_written c.loop.invariant.came
