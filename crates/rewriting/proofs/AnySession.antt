-- Lines that are written again need no session: what has been done of any one has been done of each other. Assumes nothing.
use Rattle.std.proofs.Common.{◌≡◌, ℕ, Bool, true, false, eqb, List, [], ◌∷◌, ◌++◌, length, take, refl, ap, ◌∙◌, Option, Some, None, MatchOption}
use Rattle.lists.specs.Choice.{choose}
use Rattle.lists.proofs.Choice.{yes!, no! }
use Rattle.model.specs.Session.{Session}
use Rattle.feeds.specs.Feed.{rewrites, number_after, Feed, ended, holding, next, says, after, said, last_words}
use Rattle.feeds.specs.Fed.{FedTo, closing, FinishedTo, finished, full}
use Rattle.rewriting.specs.Fed.{Rewriting, feed_of, FinishedBy}

abbrev at : Session → (line : ℕ) → (held : List ℕ) → Feed
at s n h = record { work = rewrites; session = s; line = n; held = h }

module _ (s t : Session) where
  abbrev with : Feed → Feed
  with f = record { work = f.work; session = t; line = f.line; held = f.held }

  after_any : (n : ℕ) (h l : List ℕ) → with (after (at s n h) l) ≡ after (at t n h) l
  unfolding after next
  after_any n h [] = refl
  after_any n h (b ∷ l) = go (eqb b 10) refl (after_any (number_after rewrites n h) [] l) (after_any n (take 601 (h ++ (b ∷ []))) l)
    where
      go : (c : Bool) → eqb b 10 ≡ c
          → with (after (ended (at s n h)) l) ≡ after (ended (at t n h)) l
          → with (after (holding (at s n h) (h ++ (b ∷ []))) l) ≡ after (holding (at t n h) (h ++ (b ∷ []))) l
          → with (after (next (at s n h) b) l) ≡ after (next (at t n h) b) l
      go true e ends goes = rw (yes! (ended (at s n h)) _ e, yes! (ended (at t n h)) _ e) ends
      go false e ends goes = rw (no! (ended (at s n h)) _ e, no! (ended (at t n h)) _ e) goes

  said_any : (n : ℕ) (h l : List ℕ) → said (at s n h) l ≡ said (at t n h) l
  unfolding said says next
  said_any n h [] = refl
  said_any n h (b ∷ l) = go (eqb b 10) refl (said_any (number_after rewrites n h) [] l) (said_any n (take 601 (h ++ (b ∷ []))) l)
    where
      go : (c : Bool) → eqb b 10 ≡ c
          → said (ended (at s n h)) l ≡ said (ended (at t n h)) l
          → said (holding (at s n h) (h ++ (b ∷ []))) l ≡ said (holding (at t n h) (h ++ (b ∷ []))) l
          → says (at s n h) b ++ said (next (at s n h) b) l ≡ says (at t n h) b ++ said (next (at t n h) b) l
      go true e ends goes = rw (yes! (ended (at s n h)) _ e, yes! (ended (at t n h)) _ e) (ap (λ x. says (at t n h) b ++ x) ends)
      go false e ends goes = rw (no! (ended (at s n h)) _ e, no! (ended (at t n h)) _ e) (ap (λ x. says (at t n h) b ++ x) goes)

  module _ (r r' : Rewriting) (h h' : List ℕ) where
    pub fed_any : (u : Session) (input out out' : List ℕ) (used written : ℕ) → FedTo (feed_of s r h) input out used written (feed_of u r' h') out'
        → FedTo (feed_of t r h) input out used written (feed_of t r' h') out'
    fed_any u input out out' used written f =
        let g = f.going in
        record {
          going = record {
            feed = ap with g.feed ∙ after_any r.work.line (take r.have h) (take used input);
            text = rw (said_any r.work.line (take r.have h) (take used input)) at g.text;
            within = g.within;
            room = λ k l b. rw (said_any r.work.line (take r.have h) (take k input)) at (g.room k l b);
          };
          stopped = f.stopped;
          at_start = f.at_start;
        }

-- the end of the input leaves each session as it is
module _ (s t : Session) (r : Rewriting) (h : List ℕ) where
  closing_any : t.scratch ≡ (closing (feed_of t r h)).session.scratch
  unfolding closing choose
  closing_any = go (eqb (length (take r.have h)) 0)
    where
      go : (c : Bool) → t.scratch ≡ (choose c (feed_of t r h) (ended (feed_of t r h))).session.scratch
      go true = refl
      go false = refl

  end_any : {m out m' out' : List ℕ} {done : Bool} {n : ℕ} → FinishedTo (feed_of s r h) m out done n m' out' → FinishedTo (feed_of t r h) t.scratch out done n t.scratch out'
  unfolding last_words
  end_any (finished k w e) = finished k w closing_any
  end_any (full k) = full k

pub finished_any : (s : Session) (r : Rewriting) (h m out m' out' : List ℕ) (o : Option ℕ)
    → MatchOption o (FinishedTo (feed_of s r h) m out false 0 m' out') (λ n. FinishedTo (feed_of s r h) m out true n m' out')
    → MatchOption o (FinishedBy r h out false 0 out') (λ n. FinishedBy r h out true n out')
finished_any s r h m out m' out' None f = λ t. end_any s t r h f
finished_any s r h m out m' out' (Some n) f = λ t. end_any s t r h f
