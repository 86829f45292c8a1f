use borrow.Author.Rules.{rules}
use Rattle.std.proofs.lemmas.Result.{err_from_is_err_and}
use Rattle.enrolling.proofs.Enrolled.{enrol_caller, enrol_wrong, enrol_placed, pages_low, pages_high, owner_small}
use Rattle.enrolling.proofs.decide.Goals as goal

pub returns-then-not-may_enrol : goal.returns-then-not-may_enrol
returns-then-not-may_enrol c = search enrol_caller

pub returns-in_err-check : goal.returns-in_err-check
returns-in_err-check c =
    let p = err_from_is_err_and c.from_residual.result c.from_residual.ensures.1 in rw (p.1, p.2) (search (enrol_wrong, c.in_err-check.was))

pub place-requires : goal.place-requires
place-requires c = (search rules, search (pages_low, c.in_ok-check.was), search (pages_high, c.in_ok-check.was), search owner_small)

pub returns : goal.returns
returns c = search (enrol_placed, c.in_ok-check.was)
