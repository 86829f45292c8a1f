use Rattle.std.proofs.Common.{◌∙◌, ap}
use Rattle.lists.specs.Bytes.{over}
use Rattle.lists.specs.Choice.{choose, implies}
use Rattle.lists.proofs.Bytes.{over_lent}
use Rattle.model.specs.declared.Answer.TheVariants.{Done}
use Rattle.transfer.specs.Transferred.{store_answer, stored}
use Rattle.transfer.proofs.Lending.{refused, passed, place_is, lending}
use Rattle.transfer.proofs.store_to.Goals as goal

pub slice_bounds-put-count : goal.slice_bounds-put-count
slice_bounds-put-count c = search (lending, c.in-Ok.ensures)

pub slice_bounds-put-start : goal.slice_bounds-put-start
slice_bounds-put-start c = search (lending, c.in-Ok.ensures)

pub put-requires : goal.put-requires
put-requires c = search (lending, c.in-Ok.ensures)

pub returns-in-Ok : goal.returns-in-Ok
unfolding store_answer stored choose implies
returns-in-Ok c = record {
  value = passed _ _ _ _ _ _ _ c.in-Ok.ensures (Done 0) (λ z. z);
  scratch_after =
      over_lent _ _ _ _ c.put.ensures
      ∙ ap (λ i. over c.args.scratch.now i c.args.bytes.now) (place_is _ _ _ _ _ _ _ c.in-Ok.ensures)
      ∙ passed _ _ _ _ _ _ _ c.in-Ok.ensures _ (λ z. c.args.scratch.now);
}

pub returns-in-Err : goal.returns-in-Err
unfolding store_answer stored choose implies
returns-in-Err c = record {
  value = refused _ _ _ _ _ _ _ c.in-Err.ensures (Done 0) (λ z. z);
  scratch_after = refused _ _ _ _ _ _ _ c.in-Err.ensures _ (λ z. c.args.scratch.now);
}
