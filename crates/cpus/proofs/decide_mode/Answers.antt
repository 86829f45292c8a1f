use Rattle.model.specs.Calls.{enrols}
use Rattle.edits.proofs.Kept.{decided_bad, decided_err}
use borrow.Author.Tests.{not-false}
use Rattle.lists.proofs.Rules.{if_true, if_false}
use Rattle.cpus.proofs.Done.{mode_limit, mode_refused, mode_done}
use Rattle.cpus.proofs.decide_mode.Goals as goal
use Rattle.cpus.proofs.decide_mode.Goals.{else-mode-via-then-mode+else-not-v, else-mode-via-else-mode}

pub returns-in_err-cpu : goal.returns-in_err-cpu
unfolding enrols
returns-in_err-cpu c = let e = c.in_err-cpu.ensures in decided_err _ _ _ _ c.from_residual.ensures.1 (search decided_bad)

pub returns-in_err-mode : goal.returns-in_err-mode
returns-in_err-mode c = let u = c.in_ok-cpu.ensures in let e = c.in_err-mode.ensures in decided_err _ _ _ _ c.from_residual-in_err-mode.ensures.1 (search mode_limit)

pub returns-then-not-v : goal.returns-then-not-v
returns-then-not-v c = let u = c.in_ok-cpu.ensures in let m = c.in_ok-mode.ensures in search mode_refused

pub returns : goal.returns
returns c =
    let u = c.in_ok-cpu.ensures in
    let m = c.in_ok-mode.ensures in
    elim c.else-mode.branch [ else-mode-via-then-mode+else-not-v w ↦ search (mode_done, if_true, not-false) | else-mode-via-else-mode w ↦ search (mode_done, if_false) ]
