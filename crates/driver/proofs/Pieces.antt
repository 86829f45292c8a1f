-- The session by bytes is the session by lines, however the input is cut into pieces. Assumes nothing.
use Rattle.std.proofs.Common.{◌≡◌, ℕ, List, [], ◌∷◌, ◌++◌, sym, refl, ap, ◌∙◌}
use Rattle.model.specs.Session.{Session, line_turn, lines_from, outcomes, session_outcomes, text_from, line_text, next_line, header, session_text}
use Rattle.feeds.specs.Feed.{answers, all_said, said_to, new_feed, spoken, joined}
use Rattle.feeds.proofs.ByLines.{by_bytes}
use Rattle.feeds.proofs.Pieces.{all_pieces}

answers_lines : (s : Session) (n : ℕ) (ls : List (List ℕ)) → said_to answers s n ls ≡ text_from n (outcomes s ls)
unfolding said_to outcomes text_from
answers_lines s n [] = refl
answers_lines s n (l ∷ ls) = ap (λ (k : List ℕ). line_text n (line_turn s l).outcome ++ k) (answers_lines (line_turn s l).after (next_line n) ls)

-- the whole session
pub whole : (scratch input : List ℕ) → header ++ all_said (new_feed scratch) input ≡ session_text scratch input
unfolding session_text session_outcomes
whole m input = ap (λ (l : List ℕ). header ++ l) (sym (by_bytes answers _ 1 [] input) ∙ answers_lines _ 1 (lines_from [] input))

-- in pieces
pub any_cut : (scratch : List ℕ) (pieces : List (List ℕ)) → header ++ spoken (new_feed scratch) pieces ≡ session_text scratch (joined pieces)
any_cut m ps = ap (λ (l : List ℕ). header ++ l) (all_pieces (new_feed m) ps) ∙ whole m (joined ps)
