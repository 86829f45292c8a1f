use Rattle.fields.proofs.Decoding.{decoded_none, decoded_first, decoded_second, decoded_turn, decoded_end}
use Rattle.fields.proofs.hexes.decode.Goals as goal

pub loop-i-init : goal.loop-i-init
loop-i-init c =
    let e = c.into_iter-i-iterator.ensures.into_iter_gives in
    let z = c.enumerate-i-items.ensures in
    rw (e, z.source) (decoded_none _ _ _ _ _ c.requires.0 c.requires.1 c.chunks_exact.ensures.rest c.chunks_exact.ensures.size z.count)

pub byte_of-requires : goal.byte_of-requires
byte_of-requires c =
    let steps = c.in-Some.ensures.steps in
    (decoded_first _ _ _ _ _ _ _ _ c.loop-i.invariant steps.0.1.0 steps.0.1.1 _ c.pair.ensures.0, decoded_second _ _ _ _ _ _ _ _ c.loop-i.invariant steps.0.1.0 steps.0.1.1 _ c.pair.ensures.1)

pub loop-i-preserved : goal.loop-i-preserved
loop-i-preserved c =
    let steps = c.in-Some.ensures.steps in
    decoded_turn _ _ _ _ _ _ _ _ c.loop-i.invariant steps.0.1.0 steps.0.1.1 _ _ _ _ _ c.pair.ensures.0 c.pair.ensures.1 c.byte_of.ensures steps.1 steps.2 steps.0.0

pub returns : goal.returns
returns c = let steps = c.in-None.ensures.steps in decoded_end _ _ _ _ _ _ c.loop-i.invariant steps.0.1.0
