-- What a chain of feeds writes is what is said to the parts that they took. Assumes nothing.
use Prim.Native.Nat.{ℕ, ◌+◌}
use mathlib.Core.Bool.{true}
use mathlib.Core.List.{List, ◌++◌, append_assoc}
use mathlib.Core.Path.{◌≡◌, refl, sym, ap, ◌∙◌}
use native.Mathlib.Omega.{arith}
use lib.ListN.{length, take, drop}
use lib.Seq.{take_at}
use Rattle.lists.specs.Bytes.{over}
use Rattle.digits.specs.Wrote.{Wrote}
use Rattle.feeds.specs.Feed.{Feed, last_words, spoken, joined}
use Rattle.feeds.specs.Fed.{FinishedTo, finished, Feeds, none, more}

-- the bytes written are the text
pub wrote_text : {o o₁ w : List ℕ} {n : ℕ} → Wrote o 0 w o₁ n → take n o₁ ≡ w
unfolding over
wrote_text {o} {o₁} {w} {n} t = ap (take n) t.bytes ∙ take_at w (drop (0 + length w) o) n (omega (arith, t.place))

chain_text : {f g : Feed} {parts texts : List (List ℕ)} → Feeds f parts texts g → spoken f parts ≡ joined texts ++ last_words g
unfolding spoken joined
chain_text none = refl
chain_text (more d r) = rw (← d.going.feed, ← wrote_text d.going.text, chain_text r, append_assoc)

-- and with a finish all that is said to them
pub whole_text : {f g : Feed} {parts texts : List (List ℕ)} {m out out' m' : List ℕ} {written : ℕ} → Feeds f parts texts g
    → FinishedTo g m out true written m' out' → joined texts ++ take written out' ≡ spoken f parts
whole_text {texts} c (finished room words rest) = ap (λ l. joined texts ++ l) (wrote_text words) ∙ sym (chain_text c)
