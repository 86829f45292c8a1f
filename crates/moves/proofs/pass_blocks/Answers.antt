use Rattle.std.proofs.Common.{arith}
use Rattle.moves.proofs.Blocks.{block_more}
use Rattle.moves.proofs.pass_blocks.Goals as goal

pub loop-i-preserved : goal.loop-i-preserved
loop-i-preserved g c = (omega arith, omega arith, block_more _ _ _ 64 c.loop-i.invariant.2 (c.in_block.ensures (omega arith)))
