-- Where a rewriting stands, and what it has done. It has no session, so that what is promised of it holds for any.
use Rattle.std.specs.Prelude.{ℕ, Bool, List}
use Rattle.model.specs.Session.{Session}
use Rattle.feeds.specs.declared.Feeder.{Feeder}
use Rattle.feeds.specs.Feed.{rewrites, Feed, feed_at}
use Rattle.feeds.specs.Fed.{FedTo, FinishedTo}
use Rattle.rewriting.specs.declared.Rewriter.{Rewriter}

-- what stands between two pieces of input
abbrev pub Rewriting : Type 0
Rewriting = Feeder Rewriter

-- before the first line
abbrev pub opened : Rewriting
opened = record { work = record { line = 1 }; have = 0 }

-- `held` holds the line so far in its first bytes
abbrev pub feed_of : Session → Rewriting → (held : List ℕ) → Feed
feed_of s r h = feed_at rewrites s r.work.line r.have h

-- what became of a piece of input
abbrev pub FedBy : Rewriting → (held input out : List ℕ) → (used written : ℕ) → Rewriting → (held' out' : List ℕ) → Type 0
FedBy r h input out used written r' h' out' = (s : Session) → FedTo (feed_of s r h) input out used written (feed_of s r' h') out'

-- and of its end
abbrev pub FinishedBy : Rewriting → (held out : List ℕ) → (done : Bool) → (written : ℕ) → (out' : List ℕ) → Type 0
FinishedBy r h out done written out' = (s : Session) → FinishedTo (feed_of s r h) s.scratch out done written s.scratch out'
