use Rattle.std.proofs.Common.{arith, refl}
use Rattle.digits.proofs.Writing.{adds, wrote_one}
use Rattle.digits.proofs.Text.put_byte.Goals as goal

pub returns : goal.returns
returns c = adds refl (wrote_one _ _ _ (omega arith))
