-- The end of the input, in its three cases. Assumes nothing.
use Prim.Native.Nat.{ℕ, ◌+◌, ◌≤◌}
use mathlib.Core.Bool.{true, false}
use mathlib.Core.List.{List, [], ◌∷◌, append-nil}
use mathlib.Core.Path.{◌≡◌, refl, sym, ap, ◌∙◌}
use native.Mathlib.Decide.{dec_le}
use native.Mathlib.Omega.{arith}
use lib.Dec.{eqb}
use lib.ListN.{length, take, length-take}
use borrow.Author.Tests.{eq-eqb, ne_eqb}
use Rattle.lists.specs.Choice.{choose}
use Rattle.lists.proofs.Choice.{yes!, no! }
use Rattle.digits.specs.Wrote.{Wrote}
use Rattle.digits.proofs.Writing.{wrote_none}
use Rattle.model.specs.Session.{Session}
use Rattle.feeds.specs.Feed.{Work, Feed, feed_at, ended, reply_to, next, says, after, said, last_words}
use Rattle.feeds.specs.Fed.{FedTo, closing, FinishedTo, finished}

-- A line that is held ends as by a newline.
module _ {f g : Feed} {out out' : List ℕ} {used written : ℕ} (room : 600 ≤ length out) (t : FedTo f (10 ∷ []) out used written g out') where
  -- there is room for its reply, so that it has been taken
  taken : used ≡ 1
  unfolding said
  taken = go (dec_le used 0)
    where
      go : Dec (used ≤ 0) → used ≡ 1
      go (no h) = omega (arith, t.going.within)
      go (yes h) =
          let none : used ≡ 0 = omega arith in
          let end : written ≡ 0 = t.going.text.place ∙ ap (λ k. 0 + length (said f (take k (10 ∷ [])))) none in
          absurd (omega (arith, t.stopped (omega arith), end))

  pub last_said : Wrote out 0 (reply_to f) out' written
  unfolding said says choose
  last_said =
      let w : Wrote out 0 (said f (take 1 (10 ∷ []))) out' written = rw taken at t.going.text in
      rw (append-nil (reply_to f)) at w

  pub last_after : g ≡ ended f
  unfolding after next choose
  last_after = rw taken at t.going.feed

-- no byte is held
pub finish_none : (f : Feed) (out : List ℕ) → 600 ≤ length out → length f.held ≡ 0 → FinishedTo f f.session.scratch out true 0 f.session.scratch out
unfolding last_words closing
finish_none f out l e =
    let none : eqb (length f.held) 0 ≡ true = eq-eqb (length f.held) 0 e in
    let words : Wrote out 0 (last_words f) out 0 = rw (yes! [] (reply_to f) none) (wrote_none out 0 (omega arith)) in
    finished l words (ap (λ (g : Feed). g.session.scratch) (sym (yes! f (ended f) none)))

-- a line is held, and ends
pub finish_line : (f : Feed) (m m₁ out out₁ : List ℕ) (written : ℕ) → 600 ≤ length out → (length f.held ≡ 0 → ⊥)
    → Wrote out 0 (reply_to f) out₁ written → m₁ ≡ (ended f).session.scratch → FinishedTo f m out true written m₁ out₁
unfolding last_words closing
finish_line f m m₁ out out₁ written l z w c =
    let some : eqb (length f.held) 0 ≡ false = ne_eqb (length f.held) 0 z in
    let words : Wrote out 0 (last_words f) out₁ written = rw (no! [] (reply_to f) some) w in
    finished l words (c ∙ ap (λ (g : Feed). g.session.scratch) (sym (no! f (ended f) some)))

-- where so many bytes of `held` are held
module _ (v : Work) (s : Session) (n have : ℕ) (h m out : List ℕ) (room : 600 ≤ length out) where
  pub none_held : s.scratch ≡ m → have ≡ 0 → FinishedTo (feed_at v s n have h) m out true 0 m out
  none_held e z = rw (← e) (finish_none (feed_at v s n have h) out room (rw z refl))

  pub some_held : length h ≡ 601 → (have ≡ 0 → ⊥) → (m₁ out₁ : List ℕ) (written : ℕ) → Wrote out 0 (reply_to (feed_at v s n have h)) out₁ written
      → m₁ ≡ (ended (feed_at v s n have h)).session.scratch → FinishedTo (feed_at v s n have h) m out true written m₁ out₁
  some_held long z m₁ out₁ written w c = finish_line (feed_at v s n have h) m m₁ out out₁ written room (λ q. z (omega (arith, length-take have h, q))) w c
