-- What a chain of feeds and a finish write is the input rewritten, wherever it was cut. Assumes nothing.
use Rattle.std.proofs.Common.{◌≡◌, ℕ, true, List, ◌++◌, take, ◌∙◌}
use Rattle.model.specs.Rewritten.{rewritten_text}
use Rattle.model.specs.Session.{Session}
use Rattle.feeds.specs.Feed.{Feed, joined, new_rewriting}
use Rattle.feeds.specs.Fed.{FinishedTo, Feeds}
use Rattle.feeds.proofs.ByLines.{any_cut_rewritten}
use Rattle.feeds.proofs.Chain.{whole_text}

pub whole_rewriting : {f : Feed} {parts texts : List (List ℕ)} {m out out' m' : List ℕ} {written : ℕ} (s : Session)
    → Feeds (new_rewriting s) parts texts f → FinishedTo f m out true written m' out'
    → joined texts ++ take written out' ≡ rewritten_text (joined parts)
whole_rewriting {parts} s c d = whole_text c d ∙ any_cut_rewritten s parts
