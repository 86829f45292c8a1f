-- Of a line longer than 600 bytes no byte matters: it is not read. So 601 bytes of a line are all that need be kept, whatever the
-- work. Assumes nothing.
use Prim.Native.Nat.{ℕ, ◌≤◌, ◌<◌}
use mathlib.Core.Bool.{Bool}
use mathlib.Core.List.{List, []}
use mathlib.Core.Path.{◌≡◌, refl, sym, ap, ap₂, ◌∙◌}
use native.Mathlib.Decide.{dec_le}
use native.Mathlib.Omega.{arith}
use lib.ListN.{length, take}
use lib.Seq.{take_all, length-take-le}
use borrow.Author.Tests.{lt-leb}
use Rattle.lists.specs.Choice.{choose}
use Rattle.lists.proofs.Choice.{no! }
use Rattle.model.specs.declared.Request.TheVariants.{NotRead}
use Rattle.model.specs.Lines.{stores, read_line, data_of}
use Rattle.model.specs.Rewritten.{rewritten}
use Rattle.model.specs.Session.{Session, Turn, request_turn, line_turn, line_text, next_line}
use Rattle.model.specs.Written.{takes}
use Rattle.feeds.specs.Feed.{Work, answers, rewrites, session_after, saying_to, number_after}

long_line : (l : List ℕ) → 600 < length l → read_line l ≡ NotRead
unfolding read_line
long_line l h = no! _ NotRead (lt-leb (length l) 600 h)

long_data : (l : List ℕ) → 600 < length l → data_of l ≡ []
unfolding data_of stores
long_data l h = no! _ [] (rw (long_line l h) refl)

-- so what is alike of all long lines is that of a line's first 601 bytes
cut_same : {A : Type 0} (F : List ℕ → A) (a : A) → ((k : List ℕ) → 600 < length k → F k ≡ a) → (l : List ℕ) → F (take 601 l) ≡ F l
cut_same F a long l = go (dec_le (length l) 601)
  where
    go : Dec (length l ≤ 601) → F (take 601 l) ≡ F l
    go (yes h) = ap F (take_all 601 l h)
    go (no h) =
        let n : length (take 601 l) ≡ 601 = length-take-le 601 l (omega arith) in
        long (take 601 l) (omega arith) ∙ sym (long l (omega arith))

pub read_cut : (l : List ℕ) → read_line (take 601 l) ≡ read_line l
read_cut l = cut_same read_line NotRead long_line l

pub data_cut : (l : List ℕ) → data_of (take 601 l) ≡ data_of l
data_cut l = cut_same data_of [] long_data l

turn_cut : (s : Session) (l : List ℕ) → line_turn s (take 601 l) ≡ line_turn s l
turn_cut s l = ap₂ (request_turn s) (read_cut l) (data_cut l)

takes_cut : (l : List ℕ) → takes (read_line (take 601 l)) (data_of (take 601 l)) ≡ takes (read_line l) (data_of l)
takes_cut l = ap₂ takes (read_cut l) (data_cut l)

rewritten_cut : (l : List ℕ) → rewritten (take 601 l) ≡ rewritten l
unfolding rewritten
rewritten_cut l = rw (read_cut l, data_cut l)

pub session_cut : (w : Work) (s : Session) (l : List ℕ) → session_after w s (take 601 l) ≡ session_after w s l
session_cut answers s l = ap (λ (t : Turn). t.after) (turn_cut s l)
session_cut rewrites s l = refl

pub saying_cut : (w : Work) (s : Session) (n : ℕ) (l : List ℕ) → saying_to w s n (take 601 l) ≡ saying_to w s n l
saying_cut answers s n l = ap (λ (t : Turn). line_text n t.outcome) (turn_cut s l)
saying_cut rewrites s n l = rewritten_cut l

pub number_cut : (w : Work) (n : ℕ) (l : List ℕ) → number_after w n (take 601 l) ≡ number_after w n l
number_cut answers n l = refl
number_cut rewrites n l = ap (λ (t : Bool). choose t (next_line n) n) (takes_cut l)
