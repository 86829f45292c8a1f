-- What a chain of feeds and a finish write is the text of the session, wherever the input was cut. Assumes nothing.
use Rattle.std.proofs.Common.{◌≡◌, ℕ, true, List, ◌++◌, take, ap, ◌∙◌}
use Rattle.model.specs.Session.{header, session_text}
use Rattle.feeds.specs.Feed.{Feed, joined}
use Rattle.feeds.specs.Fed.{FinishedTo, Feeds}
use Rattle.feeds.proofs.Chain.{whole_text}
use Rattle.driver.specs.Fed.{feed_of, opened}
use Rattle.driver.proofs.Pieces.{any_cut}

-- The feeds of an opened session and its finish, after the header, write the text of the session on all that was taken.
pub whole_session : {f : Feed} {parts texts : List (List ℕ)} {m out out' m' : List ℕ} {written : ℕ} (held scratch : List ℕ)
    → Feeds (feed_of opened held scratch) parts texts f → FinishedTo f m out true written m' out'
    → header ++ (joined texts ++ take written out') ≡ session_text scratch (joined parts)
whole_session {parts} held scratch c d = ap (λ l. header ++ l) (whole_text c d) ∙ any_cut scratch parts
