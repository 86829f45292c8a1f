use Rattle.std.proofs.Common.{arith}
use Rattle.letters.proofs.Words.{letters_short}
use Rattle.letters.proofs.put_word.Goals as goal

pub put_bytes-requires : goal.put_bytes-requires
put_bytes-requires c = omega (arith, letters_short _ c.bytes_of.ensures c.letters_of.ensures)
