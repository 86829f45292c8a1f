use Rattle.std.proofs.Common.{arith, rules}
use Rattle.feeds.proofs.Bounds.{fed_within, fed_some}
use Rattle.sessions.proofs.pieces.Run.feed.Goals as goal

pub loop-from-smaller : goal.loop-from-smaller
loop-from-smaller c =
    let f = c.feed-fed.ensures.fed in
    let k = fed_within _ _ _ _ _ _ _ f in
    let m = fed_some _ _ _ _ _ _ _ f (search rules) (search rules) in
    omega (arith, k, m)
