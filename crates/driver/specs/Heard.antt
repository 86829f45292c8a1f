-- The outcomes of the lines of a session, as its input comes.
use Rattle.std.specs.Prelude.{ℕ, List, [], ◌∷◌, ◌==◌}
use Rattle.lists.specs.Choice.{choose}
use Rattle.model.specs.Session.{LineOutcome, line_turn}
use Rattle.feeds.specs.Feed.{Feed, next}

-- what became of the lines that end in a piece, one outcome for each: where lines are answered, `said` is their text (proofs/Heard)
unfoldable pub heard : Feed → List ℕ → List LineOutcome
heard f [] = []
heard f (b ∷ bs) = choose (b == 10) ((line_turn f.session f.held).outcome ∷ heard (next f b) bs) (heard (next f b) bs)
