use Rattle.digits.proofs.Hexes.{hex_start, hex_turn, hex_end}
use Rattle.digits.proofs.put_hex.Goals as goal

pub loop-k-init : goal.loop-k-init
loop-k-init c = search hex_start

pub loop-k-preserved : goal.loop-k-preserved
loop-k-preserved c = search hex_turn

pub returns : goal.returns
returns c = search hex_end
