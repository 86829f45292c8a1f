use Rattle.model.specs.Session.{new_session}
use Rattle.works.proofs.feed.Goals as goal

pub returns-in-Rewriting : goal.returns-in-Rewriting
returns-in-Rewriting c = rw c.in-Rewriting.is (c.feed-in-Rewriting.ensures.fed (new_session c.args.scratch.now))
