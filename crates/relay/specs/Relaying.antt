-- Where the work stands.
use Rattle.std.specs.Prelude.{ℕ, List}
use Rattle.feeds.specs.Feed.{Feed}
use Rattle.works.specs.Fed.{feed_by}
use Rattle.relay.specs.declared.Relaying.{Relaying}

abbrev pub standing : Relaying → (scratch : List ℕ) → Feed
standing r m = feed_by r.work r.held m
