use Rattle.std.proofs.Common.{◌∙◌, ap, length}
use Rattle.lists.specs.Bytes.{part}
use Rattle.lists.specs.Choice.{choose, implies}
use Rattle.lists.proofs.Bytes.{part_lent}
use Rattle.model.specs.declared.Answer.TheVariants.{Done}
use Rattle.transfer.specs.Transferred.{fetch_answer, fetched}
use Rattle.transfer.proofs.Lending.{refused, passed, place_is, lending}
use Rattle.transfer.proofs.fetch_from.Goals as goal

pub slice_bounds-fill-count : goal.slice_bounds-fill-count
slice_bounds-fill-count c = search (lending, c.in-Ok.ensures)

pub slice_bounds-fill-start : goal.slice_bounds-fill-start
slice_bounds-fill-start c = search (lending, c.in-Ok.ensures)

pub fill-requires : goal.fill-requires
fill-requires c = search (lending, c.in-Ok.ensures)

pub returns-in-Ok : goal.returns-in-Ok
unfolding fetch_answer fetched choose implies
returns-in-Ok c = record {
  value = passed _ _ _ _ _ _ _ c.in-Ok.ensures (Done 0) (λ z. z);
  buffer_after =
      part_lent _ _ _ _ c.fill.ensures
      ∙ ap (λ i. part c.args.scratch.now i (length c.args.buffer.now)) (place_is _ _ _ _ _ _ _ c.in-Ok.ensures)
      ∙ passed _ _ _ _ _ _ _ c.in-Ok.ensures _ (λ z. c.args.buffer.now);
}

pub returns-in-Err : goal.returns-in-Err
unfolding fetch_answer fetched choose implies
returns-in-Err c = record {
  value = refused _ _ _ _ _ _ _ c.in-Err.ensures (Done 0) (λ z. z);
  buffer_after = refused _ _ _ _ _ _ _ c.in-Err.ensures _ (λ z. c.args.buffer.now);
}
