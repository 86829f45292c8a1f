-- Where the work on lines stands, whichever it is.
use Rattle.std.specs.Prelude.{ℕ, List}
use Rattle.model.specs.Session.{new_session}
use Rattle.feeds.specs.Feed.{Feed}
use Rattle.driver.specs.Fed as driver
use Rattle.rewriting.specs.Fed as rewriting
use Rattle.works.specs.declared.Work.{Work}
use Rattle.works.specs.declared.Work.TheVariants.{Answering, Rewriting}

-- `held` holds the line so far in its first bytes; lines that are written again leave the session as it is before the first line
abbrev pub feed_by : Work → (held scratch : List ℕ) → Feed
feed_by (Answering s) h m = driver.feed_of s h m
feed_by (Rewriting r) h m = rewriting.feed_of (new_session m) r h
