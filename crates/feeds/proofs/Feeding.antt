-- A loop over input, turn by turn: a line, a part of a line, and its three ends. Assumes nothing.
use Prim.Native.Nat.{ℕ, suc, ◌+◌, ◌-◌, ◌≤◌, ◌<◌}
use mathlib.Core.Bool.{false}
use mathlib.Core.List.{List, [], ◌∷◌, ◌++◌, append_assoc, append-nil}
use mathlib.Core.Logic.{inl, inr}
use mathlib.Core.Path.{◌≡◌, refl, sym, ap, ap₂, ◌∙◌}
use native.Mathlib.Decide.{dec_le}
use native.Mathlib.Numerals.{add-one}
use native.Mathlib.Omega.{arith}
use lib.Dec.{eqb}
use lib.ListN.{length, get_or, take, drop, length-take}
use lib.Seq.{take-add, take_all, take-suc, get_or-take, get_or-drop}
use borrow.Author.Tests.{eq-eqb, eqb-true, eqb-false}
use Rattle.lists.proofs.Choice.{yes!, no! }
use Rattle.lists.proofs.Parts.{take_kept}
use Rattle.lists.proofs.Places.{lowest_from_holds, lowest_from_least}
use Rattle.model.specs.Session.{Session}
use Rattle.digits.specs.Wrote.{Wrote}
use Rattle.digits.proofs.Writing.{wrote_none, wrote_more}
use Rattle.feeds.specs.Feed.{Work, session_after, saying_to, number_after, Feed, ended, reply_to, with_held, holding, next, says, after, said, newline_from, whole_line, feed_at}
use Rattle.feeds.specs.Fed.{Starts, Going, FedTo}
use Rattle.feeds.proofs.Pieces.{after_append, said_append}

-- no byte of x is a newline
abbrev Plain : List ℕ → Type 0
Plain x = (k : ℕ) → k < length x → eqb (get_or x k 0) 10 ≡ false

-- bytes that are no newlines are held, and nothing is said to them
plain_after : (f : Feed) (x : List ℕ) → length f.held ≤ 601 → Plain x → after f x ≡ holding f (f.held ++ x)
unfolding after next
plain_after f [] h p = ap (with_held f) (sym (ap (take 601) (append-nil f.held) ∙ take_all 601 f.held h))
plain_after f (b ∷ x) h p =
    let more = holding f (f.held ++ (b ∷ [])) in
    ap (λ (g : Feed). after g x) (no! (ended f) more (p 0 (omega arith)))
    ∙ plain_after more x (omega (arith, length-take 601 (f.held ++ (b ∷ [])))) (λ k l. p (suc k) (omega arith))
    ∙ ap (with_held f) (take_kept 601 (f.held ++ (b ∷ [])) x ∙ ap (take 601) (append_assoc f.held (b ∷ []) x))

plain_said : (f : Feed) (x : List ℕ) → Plain x → said f x ≡ []
unfolding said says
plain_said f [] p = refl
plain_said f (b ∷ x) p = rw (no! (reply_to f) [] (p 0 (omega arith))) (plain_said (next f b) x (λ k l. p (suc k) (omega arith)))

-- the newline after them ends the line
line_after : (f : Feed) (x : List ℕ) → length f.held ≤ 601 → Plain x → after f (x ++ (10 ∷ [])) ≡ ended (holding f (f.held ++ x))
unfolding after next
line_after f x h p = after_append f x (10 ∷ []) ∙ rw (plain_after f x h p) (yes! (ended (holding f (f.held ++ x))) _ (eq-eqb 10 10 refl))

line_said : (f : Feed) (x : List ℕ) → length f.held ≤ 601 → Plain x → said f (x ++ (10 ∷ [])) ≡ reply_to (holding f (f.held ++ x))
unfolding said says
line_said f x h p =
    said_append f x (10 ∷ [])
    ∙ rw (plain_said f x p, plain_after f x h p) (append-nil _ ∙ yes! (reply_to (holding f (f.held ++ x))) [] (eq-eqb 10 10 refl))

newline_there : (input : List ℕ) (i e : ℕ) → e ≡ newline_from input i → e < length input → get_or input e 0 ≡ 10
newline_there input i e q h = rw q (eqb-true _ 10 (lowest_from_holds (λ j. eqb (get_or input j 0) 10) i (length input - i) (omega arith)))

-- the bytes from i up to the end of the line
module _ (input : List ℕ) (i e : ℕ) (q : e ≡ newline_from input i) (l : i ≤ e) where
  abbrev rest : List ℕ
  rest = take (e - i) (drop i input)

  rest_plain : Plain rest
  rest_plain k h =
      rw (get_or-take (e - i) (drop i input) k 0 (omega (arith, length-take (e - i) (drop i input))), get_or-drop)
      (lowest_from_least (λ j. eqb (get_or input j 0) 10) i (length input - i) (i + k) (omega arith) (omega (arith, length-take (e - i) (drop i input))))

  up_to : take e input ≡ take i input ++ rest
  up_to = let n : e ≡ i + (e - i) = omega arith in ap (λ j. take j input) n ∙ take-add i (e - i) input

  -- and the newline
  up_after : e < length input → take (e + 1) input ≡ take i input ++ (rest ++ (10 ∷ []))
  up_after h =
      let b : get_or input e 0 ≡ 10 = newline_there input i e q h in
      ap (λ j. take j input) (add-one e) ∙ take-suc input e 0 h ∙ rw (up_to, b) (append_assoc (take i input) rest (10 ∷ []))

-- between i and the end of the line no other line starts
module _ (input : List ℕ) (i e : ℕ) (q : e ≡ newline_from input i) (l : i ≤ e) where
  only_start : (k : ℕ) → i ≤ k → k ≤ e → Starts input k → k ≡ i
  only_start k a b (inl z) = omega arith
  only_start k a b (inr n) = go (dec_le k i)
    where
      go : Dec (k ≤ i) → k ≡ i
      go (yes h) = omega arith
      go (no h) =
          let none : eqb (get_or input (k - 1) 0) 10 ≡ false =
          lowest_from_least (λ j. eqb (get_or input j 0) 10) i (length input - i) (k - 1) (omega arith) (omega (arith, q)) in
          absurd (eqb-false _ 10 none n)

-- Where the loop starts.
pub going_start : (f : Feed) (input out : List ℕ) → Going f input out 0 0 f out
unfolding after said
going_start f input out = record { feed = refl; text = wrote_none out 0 (omega arith); within = omega arith; room = λ k h _. absurd (omega arith) }

-- where a feed stands
abbrev standing : Work → Session → (line : ℕ) → (held : List ℕ) → Feed
standing v s n h = record { work = v; session = s; line = n; held = h }

module _ (f : Feed) (input out out₁ : List ℕ) (i e a n : ℕ) (v : Work) (s : Session) (h : List ℕ)
    (g : Going f input out i a (standing v s n h) out₁) (q : e ≡ newline_from input i) (l : i ≤ e) (few : length h ≤ 601) (fits : a + 600 ≤ length out) where
  -- there was room wherever a line started up to its end
  still_room : (k : ℕ) → k ≤ e → Starts input k → length (said f (take k input)) + 600 ≤ length out
  still_room k b t = go (dec_le i k)
    where
      go : Dec (i ≤ k) → length (said f (take k input)) + 600 ≤ length out
      go (no h) = g.room k (omega arith) t
      go (yes h) = let same : k ≡ i = only_start input i e q l k h b t in let w = g.text.place in rw same (omega (arith, w))

  abbrev line : List ℕ
  line = take 601 (h ++ take (e - i) (drop i input))

  -- A line more, to its newline: it is worked on.
  pub going_line : (s₁ : Session) (n₁ : ℕ) (out₂ : List ℕ) (b : ℕ) → e < length input → s₁ ≡ session_after v s line → n₁ ≡ number_after v n line
      → Wrote out₁ a (saying_to v s n line) out₂ b → Going f input out (e + 1) b (standing v s₁ n₁ []) out₂
  going_line s₁ n₁ out₂ b less t j w =
      let x = take i input in
      let r = take (e - i) (drop i input) ++ (10 ∷ []) in
      let p = rest_plain input i e q l in
      let c : take (e + 1) input ≡ x ++ r = up_after input i e q l less in
      let y : after f (take (e + 1) input) ≡ ended (standing v s n line) =
      ap (after f) c ∙ after_append f x r ∙ rw (← g.feed) (line_after (standing v s n h) _ few p) in
      let z : said f (take (e + 1) input) ≡ said f x ++ reply_to (standing v s n line) =
      ap (said f) c ∙ said_append f x r ∙ rw (← g.feed) (ap (λ k. said f x ++ k) (line_said (standing v s n h) _ few p)) in
      record { feed = ap₂ (λ (k : Session) m. standing v k m []) t j ∙ sym y; text = rw z (wrote_more g.text w); within = omega arith; room = λ k b u. still_room k (omega arith) u }

  -- A part of a line more, up to the end of the input: it is held.
  pub going_part : (h₁ : List ℕ) → e ≤ length input → h₁ ≡ line → Going f input out e a (standing v s n h₁) out₁
  going_part h₁ less t =
      let x = take i input in
      let r = take (e - i) (drop i input) in
      let p = rest_plain input i e q l in
      let c : take e input ≡ x ++ r = up_to input i e q l in
      let y : after f (take e input) ≡ standing v s n line = ap (after f) c ∙ after_append f x r ∙ rw (← g.feed) (plain_after (standing v s n h) _ few p) in
      let z : said f (take e input) ≡ said f x =
      ap (said f) c ∙ said_append f x r ∙ rw (← g.feed) (ap (λ k. said f x ++ k) (plain_said (standing v s n h) _ p) ∙ append-nil (said f x)) in
      record { feed = ap (standing v s n) t ∙ sym y; text = rw z g.text; within = less; room = λ k b u. still_room k (omega arith) u }

-- The loop stops at the end of the input.
pub fed_whole : (f : Feed) (input out out₁ : List ℕ) (i a : ℕ) (f₁ : Feed) → Going f input out i a f₁ out₁ → length input ≤ i → FedTo f input out i a f₁ out₁
fed_whole f input out out₁ i a f₁ g h = record { going = g; stopped = λ k. absurd (omega arith); at_start = λ k. absurd (omega arith) }

-- after a newline a line starts
pub line_starts : (input : List ℕ) (i e : ℕ) → e ≡ newline_from input i → i ≤ e → e < length input → Starts input (e + 1)
line_starts input i e q l h = inr (ap (λ k. get_or input k 0) back ∙ newline_there input i e q h)
  where
    back : e + 1 - 1 ≡ e
    back = omega arith

-- a turn of the loop, and its end within a line, where so many bytes of `held` are held
module _ (f : Feed) (input out out₁ held : List ℕ) (i e a n have : ℕ) (v : Work) (s : Session) (g : Going f input out i a (feed_at v s n have held) out₁)
    (q : e ≡ newline_from input i) (l : i ≤ e) (long : length held ≡ 601) (fits : a + 600 ≤ length out) where
  short : length (take have held) ≤ 601
  short = omega (arith, length-take have held)

  abbrev whole : List ℕ
  whole = whole_line held have (take (e - i) (drop i input))

  pub taken : e < length input → (s₁ : Session) (n₁ b have₁ : ℕ) (held₁ out₂ : List ℕ) → have₁ ≡ 0 → s₁ ≡ session_after v s whole → n₁ ≡ number_after v n whole
      → Wrote out₁ a (saying_to v s n whole) out₂ b → Going f input out (e + 1) b (feed_at v s₁ n₁ have₁ held₁) out₂
  taken less s₁ n₁ b have₁ held₁ out₂ z t j w = rw z (going_line f input out out₁ i e a n v s (take have held) g q l short fits s₁ n₁ out₂ b less t j w)

  pub stopped : (k : ℕ) (held₁ : List ℕ) → e ≡ length input → take k held₁ ≡ whole → FedTo f input out e a (feed_at v s n k held₁) out₁
  stopped k held₁ all kept = fed_whole f input out out₁ e a _ (going_part f input out out₁ i e a n v s (take have held) g q l short fits (take k held₁) (omega arith) kept) (omega arith)
