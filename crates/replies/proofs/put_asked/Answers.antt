use Rattle.std.proofs.Common.{rules}
use Rattle.replies.proofs.Values.{call_asked, no_call_asked}
use Rattle.replies.proofs.put_asked.Goals as goal

pub returns-in-Call-clause-adds : goal.returns-in-Call-clause-adds
returns-in-Call-clause-adds c = search call_asked

pub returns-in_default : goal.returns-in_default
returns-in_default c = record { adds = search no_call_asked; short = search rules }
