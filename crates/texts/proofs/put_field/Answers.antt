use Rattle.texts.proofs.ByKind.{data_lent, room_data}
use Rattle.texts.proofs.put_field.Goals as goal

pub slice_bounds-put_hex-end : goal.slice_bounds-put_hex-end
slice_bounds-put_hex-end c = data_lent _ _ _ c.in-Data.is c.requires.taken

pub put_hex-requires : goal.put_hex-requires
put_hex-requires c = room_data _ _ _ c.in-Data.is c.requires.taken _ _ c.requires.room
