use Rattle.std.proofs.Common.{arith}
use Rattle.letters.proofs.Blanks.{name_short}
use Rattle.letters.proofs.put_name.Goals as goal

pub put_bytes-requires : goal.put_bytes-requires
put_bytes-requires c = omega (arith, name_short _ c.bytes_of.ensures c.unpadded.ensures)
