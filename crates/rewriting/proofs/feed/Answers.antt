use Rattle.std.proofs.Common.{[]}
use Rattle.model.specs.Session.{new_session}
use Rattle.rewriting.proofs.AnySession.{fed_any}
use Rattle.rewriting.proofs.feed.Goals as goal

pub returns-clause-fed : goal.returns-clause-fed
returns-clause-fed c = λ s. fed_any (new_session []) s _ c.feed.new.self _ c.feed.new.held (new_session c.feed.new.scratch) _ _ _ _ _ c.feed.ensures.fed
