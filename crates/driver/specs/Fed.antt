-- Where the driver stands in a session.
use Rattle.std.specs.Prelude.{ℕ, false, List}
use Rattle.model.specs.Fresh.{empty_tables}
use Rattle.feeds.specs.declared.Feeder.{Feeder}
use Rattle.feeds.specs.Feed.{answers, Feed, feed_at}
use Rattle.turns.specs.Taken.{session_of}
use Rattle.driver.specs.declared.Answering.{Answering}

-- what stands between two pieces of input
abbrev pub Session : Type 0
Session = Feeder Answering

-- `held` holds the line so far in its first bytes
abbrev pub feed_of : Session → (held scratch : List ℕ) → Feed
feed_of s h m = feed_at answers (session_of s.work.host m) s.work.line s.have h

-- before the first line
abbrev pub opened : Session
opened = record { work = record { host = record { begun = false; ready = false; state = empty_tables 0 0 }; line = 1 }; have = 0 }
