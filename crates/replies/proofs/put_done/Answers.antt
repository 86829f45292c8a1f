-- The calls of an arm are told by their places in the enum, those of the last arm by what they are not.
use Rattle.std.proofs.Common.{rules}
use Rattle.replies.proofs.Values.{number_done, bytes_done, none_done}
use Rattle.replies.proofs.put_done.Goals as goal

pub returns-in-Enrol-clause-adds : goal.returns-in-Enrol-clause-adds
returns-in-Enrol-clause-adds c = number_done _ _ _ c.in-Enrol.is c.from.ensures c.put_decimal.ensures.adds

pub returns-in-Fetch-clause-adds : goal.returns-in-Fetch-clause-adds
returns-in-Fetch-clause-adds c = search bytes_done

pub returns-in_default : goal.returns-in_default
returns-in_default c =
    let h = c.in_default in
    record { adds = none_done _ _ _ (h.not-Enrol, h.not-Create, h.not-Query, h.not-Add, h.not-Fetch) c.put_byte.ensures; short = search rules }
