use Rattle.std.proofs.Common.{sym, ap, ◌∙◌}
use Rattle.feeds.specs.Feed.{Feed}
use Rattle.feeds.proofs.Ending.{last_said, last_after}
use Rattle.feeds.proofs.Feeder.last_line.Goals as goal

pub returns-clause-said : goal.returns-clause-said
returns-clause-said g c = last_said c.requires c.feed.ensures.fed

pub returns-clause-scratch : goal.returns-clause-scratch
returns-clause-scratch g c = sym (g.met.W.LineWork.lent _ _) ∙ ap (λ (f : Feed). f.session.scratch) (last_after c.requires c.feed.ensures.fed)
