use Rattle.model.specs.Calls.{enrols}
use Rattle.edits.proofs.Kept.{decided_bad, decided_err}
use Rattle.cpus.proofs.Done.{load_limit, load_done}
use Rattle.cpus.proofs.decide_load.Goals as goal

pub returns-in_err-cpu : goal.returns-in_err-cpu
unfolding enrols
returns-in_err-cpu c = let e = c.in_err-cpu.ensures in decided_err _ _ _ _ c.from_residual.ensures.1 (search decided_bad)

pub returns-in_err-register : goal.returns-in_err-register
returns-in_err-register c = let u = c.in_ok-cpu.ensures in let e = c.in_err-register.ensures in decided_err _ _ _ _ c.from_residual-in_err-register.ensures.1 (search load_limit)

pub returns : goal.returns
returns c = let u = c.in_ok-cpu.ensures in let r = c.in_ok-register.ensures in search load_done
