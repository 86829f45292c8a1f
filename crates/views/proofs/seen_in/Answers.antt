use Rattle.views.proofs.Seen.{view_read}
use Rattle.views.proofs.seen_in.Goals as goal

pub returns : goal.returns
returns c = view_read _ _ _ _ _ _ _ _ _ _ _ _ _ _ c.row-row.ensures.0 c.token_seen-token.ensures c.entry_place.ensures.0 c.slot_for-slot.ensures c.free_for-free.ensures c.slot_row-u.ensures.0 c.row-column.ensures.0 c.free_place.ensures.0 c.place_of.ensures c.place_of-2.ensures c.block_place.ensures.0 c.beyond_place.ensures.0
