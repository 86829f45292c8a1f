use Rattle.std.proofs.Common.{rules}
use Rattle.replies.proofs.Values.{done_value, argument_value, refused_value}
use Rattle.replies.proofs.put_value.Goals as goal

pub returns-in-Done-clause-adds : goal.returns-in-Done-clause-adds
returns-in-Done-clause-adds c = search done_value

pub returns-in-Limit-clause-adds : goal.returns-in-Limit-clause-adds
returns-in-Limit-clause-adds c = search argument_value

pub returns-in_default : goal.returns-in_default
returns-in_default c =
    record { adds = refused_value _ _ _ (c.in_default.not-Done, c.in_default.not-Limit) c.put_byte.ensures; short = search rules }
