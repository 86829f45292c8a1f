use Rattle.model.specs.Calls.{enrols}
use Rattle.edits.proofs.Kept.{decided_bad, decided_err}
use Rattle.cpus.proofs.Done.{key_limit, key_done}
use Rattle.cpus.proofs.decide_key.Goals as goal

pub returns-in_err-cpu : goal.returns-in_err-cpu
unfolding enrols
returns-in_err-cpu c = let e = c.in_err-cpu.ensures in decided_err _ _ _ _ c.from_residual.ensures.1 (search decided_bad)

pub returns-in_err-key : goal.returns-in_err-key
returns-in_err-key c = let u = c.in_ok-cpu.ensures in let e = c.in_err-key.ensures in decided_err _ _ _ _ c.from_residual-in_err-key.ensures.1 (search key_limit)

pub returns : goal.returns
returns c = let u = c.in_ok-cpu.ensures in let k = c.in_ok-key.ensures in search key_done
