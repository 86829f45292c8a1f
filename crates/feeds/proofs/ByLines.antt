-- The work by bytes is the work by lines, however the input is cut into pieces. Assumes nothing.
use Prim.Native.Nat.{ℕ}
use mathlib.Core.Bool.{Bool, true, false}
use mathlib.Core.List.{List, [], ◌∷◌, ◌++◌, append-nil}
use mathlib.Core.Path.{◌≡◌, refl, sym, ap, ap₂, ◌∙◌}
use native.Mathlib.Omega.{arith}
use lib.Dec.{eqb}
use lib.ListN.{length, take}
use borrow.Author.Tests.{eq-eqb, ne_eqb}
use Rattle.lists.proofs.Choice.{yes!, no! }
use Rattle.lists.proofs.Parts.{take_kept}
use Rattle.model.specs.Rewritten.{rewritten, rewritten_lines, rewritten_text}
use Rattle.model.specs.Session.{Session, lines_from}
use Rattle.feeds.specs.Feed.{Work, rewrites, session_after, saying_to, number_after, Feed, ended, reply_to, with_held, next, says, after, said, last_words, all_said, spoken, joined, said_to, new_rewriting}
use Rattle.feeds.proofs.Cut.{session_cut, saying_cut, number_cut}
use Rattle.feeds.proofs.Pieces.{all_turn, all_pieces}

module _ (w : Work) where
  -- Where a feed stands with the line h so far.
  abbrev feed_at : Session → (line : ℕ) → (held : List ℕ) → Feed
  feed_at s n h = record { work = w; session = s; line = n; held = take 601 h }

  -- the line h ends
  abbrev following : Session → (line : ℕ) → (held : List ℕ) → Feed
  following s n h = feed_at (session_after w s h) (number_after w n h) []

  ended_cut : (s : Session) (n : ℕ) (h : List ℕ) → ended (feed_at s n h) ≡ following s n h
  ended_cut s n h = ap₂ (λ (t : Session) k. feed_at t k []) (session_cut w s h) (number_cut w n h)

  pub by_bytes : (s : Session) (n : ℕ) (h input : List ℕ) → said_to w s n (lines_from h input) ≡ all_said (feed_at s n h) input
  unfolding lines_from said_to said after last_words says next
  by_bytes s n [] [] = rw (yes! {A = List (List ℕ)} [] ([] ∷ []) (eq-eqb 0 0 refl), yes! {A = List ℕ} [] (reply_to (feed_at s n [])) (eq-eqb 0 0 refl))
  by_bytes s n (a ∷ h) [] =
      let some : eqb (length (a ∷ h)) 0 ≡ false = ne_eqb (length (a ∷ h)) 0 (λ (q : length (a ∷ h) ≡ 0). omega arith) in
      let kept : eqb (length (take 601 (a ∷ h))) 0 ≡ false = ne_eqb (length (take 601 (a ∷ h))) 0 (λ (q : length (take 601 (a ∷ h)) ≡ 0). omega arith) in
      rw (no! {A = List (List ℕ)} [] ((a ∷ h) ∷ []) some, no! {A = List ℕ} [] (reply_to (feed_at s n (a ∷ h))) kept)
      (append-nil _ ∙ sym (saying_cut w s n (a ∷ h)))
  by_bytes s n h (b ∷ bs) =
      go (eqb b 10) refl (by_bytes (session_after w s h) (number_after w n h) [] bs) (by_bytes s n (h ++ (b ∷ [])) bs)
    where
      go : (t : Bool) → eqb b 10 ≡ t
          → said_to w (session_after w s h) (number_after w n h) (lines_from [] bs) ≡ all_said (following s n h) bs
          → said_to w s n (lines_from (h ++ (b ∷ [])) bs) ≡ all_said (feed_at s n (h ++ (b ∷ []))) bs
          → said_to w s n (lines_from h (b ∷ bs)) ≡ all_said (feed_at s n h) (b ∷ bs)
      go true e ends goes =
          let f : next (feed_at s n h) b ≡ following s n h = yes! (ended (feed_at s n h)) _ e ∙ ended_cut s n h in
          let v : says (feed_at s n h) b ≡ saying_to w s n h = yes! (reply_to (feed_at s n h)) [] e ∙ saying_cut w s n h in
          rw (yes! (h ∷ lines_from [] bs) (lines_from (h ++ (b ∷ [])) bs) e)
          (ap (λ (l : List ℕ). saying_to w s n h ++ l) ends ∙ sym (all_turn (feed_at s n h) (following s n h) b (saying_to w s n h) bs f v))
      go false e ends goes =
          let more = feed_at s n (h ++ (b ∷ [])) in
          let f : next (feed_at s n h) b ≡ more =
          no! (ended (feed_at s n h)) _ e ∙ ap (with_held (feed_at s n h)) (take_kept 601 h (b ∷ [])) in
          let v : says (feed_at s n h) b ≡ [] = no! (reply_to (feed_at s n h)) [] e in
          rw (no! (h ∷ lines_from [] bs) (lines_from (h ++ (b ∷ [])) bs) e)
          (goes ∙ sym (all_turn (feed_at s n h) more b [] bs f v))

-- Lines that are written again: the text of the input rewritten.
rewrites_lines : (s : Session) (n : ℕ) (ls : List (List ℕ)) → said_to rewrites s n ls ≡ rewritten_lines ls
unfolding said_to rewritten_lines
rewrites_lines s n [] = refl
rewrites_lines s n (l ∷ ls) = ap (λ (k : List ℕ). rewritten l ++ k) (rewrites_lines s (number_after rewrites n l) ls)

pub whole_rewritten : (s : Session) (input : List ℕ) → all_said (new_rewriting s) input ≡ rewritten_text input
unfolding rewritten_text
whole_rewritten s input = sym (by_bytes rewrites s 1 [] input) ∙ rewrites_lines s 1 (lines_from [] input)

pub any_cut_rewritten : (s : Session) (pieces : List (List ℕ)) → spoken (new_rewriting s) pieces ≡ rewritten_text (joined pieces)
any_cut_rewritten s ps = all_pieces (new_rewriting s) ps ∙ whole_rewritten s (joined ps)
