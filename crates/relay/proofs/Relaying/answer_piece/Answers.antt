use Rattle.std.proofs.Common.{rules, refl, arith}
use Rattle.std.proofs.lemmas.Result.{err_from_is_err_and}
use Rattle.relay.proofs.Parts.{part_to, parts_start, parts_more, parts_fail, rest_lent}
use Rattle.relay.proofs.Relaying.answer_piece.Goals as goal

pub loop-from-init : goal.loop-from-init
loop-from-init g c = record { taken = refl; scratch = refl; parts = parts_start _ _ _ c.requires }

pub returns-in_err-say-clause-piece : goal.returns-in_err-say-clause-piece
returns-in_err-say-clause-piece g c =
    let p = err_from_is_err_and c.from_residual.result c.from_residual.ensures.1 in
    rw (p.1, p.2) (parts_fail c.loop-from.invariant.parts (rest_lent c.args.input.now c.loop-from.from) (part_to c.feed-fed.ensures (omega arith)) (c.line-line.ensures _ _) c.in_err-say.ensures)

pub loop-from-preserved : goal.loop-from-preserved
loop-from-preserved g c = record {
  taken = c.loop-from.invariant.taken;
  scratch = search rules;
  parts = parts_more c.loop-from.invariant.parts (rest_lent c.args.input.now c.loop-from.from) (part_to c.feed-fed.ensures (omega arith)) c.in_ok-say.ensures;
}

pub loop-from-smaller : goal.loop-from-smaller
loop-from-smaller g c =
    let t = part_to c.feed-fed.ensures (omega arith) in
    omega (arith, t.some, t.within)
