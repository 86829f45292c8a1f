use Rattle.std.proofs.Common.{rules}
use Rattle.std.proofs.lemmas.Result.{err_from_is_err_and}
use Rattle.relay.specs.Ran.{ended}
use Rattle.relay.proofs.Endings.{end_unwritten, end_answered, end_stops}
use Rattle.relay.proofs.Relaying.finish.Goals as goal

pub returns-in_err-say-clause-ran : goal.returns-in_err-say-clause-ran
returns-in_err-say-clause-ran g c =
    let p = err_from_is_err_and c.from_residual.result c.from_residual.ensures.1 in
    rw (p.1, p.2) (end_unwritten c.finish-n.ensures (search rules) (c.line-line.ensures _ _) c.requires c.in_err-say.ensures)

pub returns-in_err-say-clause-stops : goal.returns-in_err-say-clause-stops
returns-in_err-say-clause-stops g c =
    let p = err_from_is_err_and c.from_residual.result c.from_residual.ensures.1 in
    rw (p.1, p.2) (end_stops c.in_err-say.ensures)

pub returns-clause-ran : goal.returns-clause-ran
returns-clause-ran g c = end_answered c.finish-n.ensures (search rules) (c.line-line.ensures _ _) c.requires c.in_ok-say.ensures c.replied.ensures

pub returns-clause-stops : goal.returns-clause-stops
returns-clause-stops g c = ended
