-- An ending after input that was answered before. Assumes nothing.
use Rattle.std.proofs.Common.{◌≡◌, ℕ, ◌+◌, ◌<◌, List, Ok, Err, [], ◌++◌, length, take, sym, refl, ap, ◌∙◌, subst, append_assoc, mod-lt, lit<, arith, length-append}
use lib.Seq.{take-append-add, take-append-le}
use Rattle.feeds.specs.Feed.{Feed, after, said, last_words, all_said}
use Rattle.feeds.specs.Fed.{closing}
use Rattle.feeds.proofs.Pieces.{after_append, said_append}
use Rattle.relay.specs.declared.Failure.{Failure}
use Rattle.relay.specs.declared.Halt.{Halt}
use Rattle.relay.specs.Spoken.{counted, replied_to}
use Rattle.relay.specs.Ran.{How, PieceTo, Ran, answered, unread, unwritten}
use Rattle.relay.proofs.Lines.{Numbered, numbered}
use Rattle.relay.proofs.Spoken.{replied_join, sum_join}

-- The work came from f to g over some input, while so many bytes were taken and written.
pub record Came (f : Feed) (t₀ w₀ t w : ℕ) (g : Feed) : Type 0 where
  pub input : List ℕ
  pub feed : g ≡ after f input
  pub taken : t ≡ counted (t₀ + length input)
  pub text : w ≡ counted (w₀ + length (said f input))

pub came_start : (f : Feed) {t w : ℕ} → t ≡ 0 → w ≡ 0 → Came f 0 0 t w f
unfolding after said
came_start f a b = record { input = []; feed = refl; taken = a; text = b }

-- a piece of n bytes
whole_taken : (t : ℕ) {n taken : ℕ} (piece : List ℕ) → taken ≡ counted (t + n) → n ≡ length piece → taken ≡ counted (t + length piece)
whole_taken t piece counts whole = counts ∙ ap (λ (k : ℕ). counted (t + k)) whole

module _ {f g : Feed} {t₀ w₀ t w : ℕ} (c : Came f t₀ w₀ t w g) where
  pub came_taken : t < 18446744073709551616
  came_taken = rw c.taken (mod-lt (t₀ + length c.input) (lit< tt))

  pub came_written : w < 18446744073709551616
  came_written = rw c.text (mod-lt (w₀ + length (said f c.input)) (lit< tt))

  lines : Numbered f (said f c.input) g
  lines = subst (Numbered f (said f c.input)) (sym c.feed) (numbered f c.input)

  after_more : (y : List ℕ) → after g y ≡ after f (c.input ++ y)
  after_more y = ap (λ (k : Feed). after k y) c.feed ∙ sym (after_append f c.input y)

  said_more : (y : List ℕ) → said f c.input ++ said g y ≡ said f (c.input ++ y)
  said_more y = ap (λ (k : Feed). said f c.input ++ said k y) c.feed ∙ sym (said_append f c.input y)

  all_more : (y : List ℕ) → said f c.input ++ all_said g y ≡ all_said f (c.input ++ y)
  all_more y =
      sym (append_assoc (said f c.input) (said g y) (last_words (after g y)))
      ∙ (ap (λ (k : List ℕ). k ++ last_words (after g y)) (said_more y) ∙ ap (λ (k : Feed). said f (c.input ++ y) ++ last_words k) (after_more y))

  taken_more : {n : ℕ} (y : List ℕ) → n ≡ counted (t + length y) → n ≡ counted (t₀ + length (c.input ++ y))
  taken_more y e =
      let z : length c.input + length y ≡ length (c.input ++ y) = sym (length-append c.input y) in
      e ∙ (sum_join t₀ t (length c.input) (length y) c.taken ∙ ap (λ (k : ℕ). counted (t₀ + k)) z)

  -- a text after what was said before
  text_more : {n : ℕ} (x z : List ℕ) → said f c.input ++ x ≡ z → n ≡ counted (w + length x) → n ≡ counted (w₀ + length z)
  text_more x z e q =
      let k : length (said f c.input) + length x ≡ length z = sym (length-append (said f c.input) x) ∙ ap length e in
      q ∙ (sum_join w₀ w (length (said f c.input)) (length x) c.text ∙ ap (λ (i : ℕ). counted (w₀ + i)) k)

  line_more : {n : ℕ} (x z : List ℕ) → said f c.input ++ x ≡ z → n ≡ replied_to g.line x → n ≡ replied_to f.line z
  line_more x z e q = q ∙ (replied_join x lines ∙ ap (replied_to f.line) e)

  pub came_stop : {how : How} {line taken written : ℕ} {m : List ℕ} → Ran g t w how line taken written m → Ran f t₀ w₀ how line taken written m
  came_stop (answered y a b l e) =
      answered (c.input ++ y) (taken_more y a) (text_more (all_said g y) _ (all_more y) b) (line_more (all_said g y) _ (all_more y) l)
      (e ∙ ap (λ (k : Feed). (closing k).session.scratch) (after_more y))
  came_stop (unread y a b l e) =
      unread (c.input ++ y) (taken_more y a) (text_more (said g y) _ (said_more y) b) (line_more (said g y) _ (said_more y) l)
      (e ∙ ap (λ (k : Feed). k.session.scratch) (after_more y))
  came_stop (unwritten y n a s b l) =
      let x = said f c.input in
      let k : x ++ take n (all_said g y) ≡ take (length x + n) (all_said f (c.input ++ y)) =
      sym (take-append-add x (all_said g y) n) ∙ ap (take (length x + n)) (all_more y) in
      let j : length x + length (all_said g y) ≡ length (all_said f (c.input ++ y)) = sym (length-append x (all_said g y)) ∙ ap length (all_more y) in
      unwritten (c.input ++ y) (length x + n) (taken_more y a) (omega arith) (b ∙ sum_join w₀ w (length x) n c.text) (line_more (take n (all_said g y)) _ k l)

  -- a piece more, of n bytes
  module _ {h : Feed} {piece : List ℕ} {n taken written : ℕ} (counts : taken ≡ counted (t + n)) where
    pub came_more : PieceTo g piece w (Ok tt) written h → n ≡ length piece → Came f t₀ w₀ taken written h
    came_more p whole =
        record {
          input = c.input ++ piece;
          feed = p.feed refl ∙ after_more piece;
          taken = taken_more piece (whole_taken t piece counts whole);
          text = text_more (said g piece) _ (said_more piece) p.text;
        }

    pub came_fail : {s : Halt} {m : List ℕ} → PieceTo g piece w (Err s) written h → n ≡ length piece → Ran f t₀ w₀ (Err s.failure) s.line taken written m
    came_fail {s} {m} p whole =
        let l : p.text.count < length (said g piece) = p.text.short in
        let k : length (all_said g piece) ≡ length (said g piece) + length (last_words (after g piece)) = length-append (said g piece) (last_words (after g piece)) in
        let q : take p.text.count (said g piece) ≡ take p.text.count (all_said g piece) =
        sym (take-append-le p.text.count (said g piece) (last_words (after g piece)) (omega arith)) in
        subst (λ (x : Failure). Ran f t₀ w₀ (Err x) s.line taken written m) (sym p.text.failure)
        (came_stop (unwritten piece p.text.count (whole_taken t piece counts whole) (omega arith) p.text.sum (p.text.last ∙ ap (replied_to g.line) q)))
