-- Input as a fold over its bytes, so that it may come in pieces, for any work that is done line by line. It is proved equal to
-- the same work on whole lines (proofs/ByLines).
use Rattle.std.specs.Prelude.{ℕ, List, [], ◌∷◌, ◌++◌, eqb, length, take}
use Rattle.lists.specs.Choice.{choose}
use Rattle.model.specs.Lines.{read_line, data_of}
use Rattle.model.specs.Rewritten.{rewritten}
use Rattle.model.specs.Session.{Session, line_turn, new_session, line_text, next_line}
use Rattle.model.specs.Written.{takes}
use Rattle.moves.specs.Found.{byte_from}
use Rattle.feeds.specs.declared.Feeder.{Feeder}

-- what becomes of a line that ends: the session answers it, or it is written again
pub data Work : Type 0 where
  answers : Work
  rewrites : Work

-- the session after the line: no request is carried out where lines are only written again
abbrev pub session_after : Work → Session → (line : List ℕ) → Session
session_after answers s l = (line_turn s l).after
session_after rewrites s l = s

-- what is said to the line
abbrev pub saying_to : Work → Session → (number : ℕ) → (line : List ℕ) → List ℕ
saying_to answers s n l = line_text n (line_turn s l).outcome
saying_to rewrites s n l = rewritten l

-- the number of the next line: of the input where each line is answered, else of the output
abbrev pub number_after : Work → (number : ℕ) → (line : List ℕ) → ℕ
number_after answers n l = next_line n
number_after rewrites n l = choose (takes (read_line l) (data_of l)) (next_line n) n

-- Where the work stands between two bytes: the session, the number of the next line that is said something to, and the line so
-- far. Of a line longer than 600 bytes 601 are kept: it is not read, whatever follows.
pub record Feed : Type 0 where
  pub work : Work
  pub session : Session
  pub line : ℕ
  pub held : List ℕ

-- the line ends, and the next begins
abbrev pub ended : Feed → Feed
ended f = record {
  work = f.work;
  session = session_after f.work f.session f.held;
  line = number_after f.work f.line f.held;
  held = [];
}

abbrev pub reply_to : Feed → List ℕ
reply_to f = saying_to f.work f.session f.line f.held

-- the line so far is l
abbrev pub with_held : Feed → List ℕ → Feed
with_held f l = record { work = f.work; session = f.session; line = f.line; held = l }

abbrev pub holding : Feed → List ℕ → Feed
holding f l = with_held f (take 601 l)

-- one byte
unfoldable pub next : Feed → ℕ → Feed
next f b = choose (eqb b 10) (ended f) (holding f (f.held ++ (b ∷ [])))

unfoldable pub says : Feed → ℕ → List ℕ
says f b = choose (eqb b 10) (reply_to f) []

-- a piece of input
unfoldable pub after : Feed → List ℕ → Feed
after f [] = f
after f (b ∷ bs) = after (next f b) bs

unfoldable pub said : Feed → List ℕ → List ℕ
said f [] = []
said f (b ∷ bs) = says f b ++ said (next f b) bs

-- the end of the input: a line that has a byte has ended too
unfoldable pub last_words : Feed → List ℕ
last_words f = choose (eqb (length f.held) 0) [] (reply_to f)

-- all that is said to an input
abbrev pub all_said : Feed → (input : List ℕ) → List ℕ
all_said f input = said f input ++ last_words (after f input)

-- and to one that comes in pieces
unfoldable pub spoken : Feed → List (List ℕ) → List ℕ
spoken f [] = last_words f
spoken f (p ∷ ps) = said f p ++ spoken (after f p) ps

unfoldable pub joined : List (List ℕ) → List ℕ
joined [] = []
joined (p ∷ ps) = p ++ joined ps

-- the same on whole lines
unfoldable pub said_to : Work → Session → (number : ℕ) → (lines : List (List ℕ)) → List ℕ
said_to w s n [] = []
said_to w s n (l ∷ ls) = saying_to w s n l ++ said_to w (session_after w s l) (number_after w n l) ls

-- before the first line of a session, and of a rewriting
abbrev pub new_feed : (scratch : List ℕ) → Feed
new_feed m = record { work = answers; session = new_session m; line = 1; held = [] }

abbrev pub new_rewriting : Session → Feed
new_rewriting s = record { work = rewrites; session = s; line = 1; held = [] }

-- where the line ends: the place of the first newline of l from i on, and the length of l where there is none
abbrev pub newline_from : List ℕ → ℕ → ℕ
newline_from l i = byte_from 10 l i

-- a line whose first bytes are held and whose rest has come, as far as it matters
abbrev pub whole_line : (held : List ℕ) → (have : ℕ) → (rest : List ℕ) → List ℕ
whole_line held have rest = take 601 (take have held ++ rest)

-- where a feed stands with so many bytes of `held`
abbrev pub feed_at : Work → Session → (line have : ℕ) → (held : List ℕ) → Feed
feed_at w s n k h = record { work = w; session = s; line = n; held = take k h }

-- where a work stands between two pieces of input: `held` holds the line so far in its first bytes
abbrev pub feed_of : {W : Type 0} → Work → (session : W → (scratch : List ℕ) → Session) → (number : W → ℕ) → Feeder W → (held scratch : List ℕ) → Feed
feed_of w s n f h m = feed_at w (s f.work m) (n f.work) f.have h
