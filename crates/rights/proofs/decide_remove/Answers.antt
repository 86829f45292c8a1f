use Rattle.model.specs.Calls.{enrols}
use Rattle.edits.proofs.Kept.{decided_bad, decided_err}
use Rattle.rights.proofs.Seen.{remove_zero, remove_malformed, remove_unassigned, remove_done, number_fits, number_low, entry_byte}
use Rattle.rights.proofs.decide_remove.Goals as goal
use Rattle.rights.proofs.decide_remove.Goals.{then-token-eq0-via-then-token-eq0, then-token-eq0-via-else-token-eq0+then-is_malformed}

pub returns-in_err-at : goal.returns-in_err-at
unfolding enrols
returns-in_err-at c = let e = c.in_err-at.ensures in decided_err _ _ _ _ c.from_residual.ensures.1 (search decided_bad)

pub returns-then-token-eq0 : goal.returns-then-token-eq0
returns-then-token-eq0 c =
    let at = c.in_ok-at.ensures in
    elim c.then-token-eq0.branch [ then-token-eq0-via-then-token-eq0 w ↦ search remove_zero | then-token-eq0-via-else-token-eq0+then-is_malformed w ↦ search remove_malformed ]

pub returns-then-not-is_assigned : goal.returns-then-not-is_assigned
returns-then-not-is_assigned c =
    let at = c.in_ok-at.ensures in
    search remove_unassigned

pub overflow_cast-token : goal.overflow_cast-token
overflow_cast-token c =
    let at = c.in_ok-at.ensures in
    search number_fits

pub overflow_sub-token : goal.overflow_sub-token
overflow_sub-token c =
    let at = c.in_ok-at.ensures in
    search number_low

pub overflow_add-at : goal.overflow_add-at
overflow_add-at c =
    let at = c.in_ok-at.ensures in
    search entry_byte

pub returns : goal.returns
returns c =
    let at = c.in_ok-at.ensures in
    search remove_done
