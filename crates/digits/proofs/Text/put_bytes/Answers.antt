use Rattle.std.proofs.Common.{refl}
use Rattle.digits.proofs.Writing.{adds, wrote_part}
use Rattle.digits.proofs.Text.put_bytes.Goals as goal

pub returns : goal.returns
returns c = adds refl (wrote_part _ _ _ _ c.requires c.copy_from_slice.ensures.after)
