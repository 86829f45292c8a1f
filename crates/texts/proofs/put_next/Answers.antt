use Rattle.digits.proofs.Writing.{adds_more}
use Rattle.texts.proofs.put_next.Goals as goal

pub returns : goal.returns
returns c = adds_more c.put_byte.ensures c.put_field.ensures
