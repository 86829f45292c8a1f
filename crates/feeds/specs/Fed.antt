-- What has been done with a piece of input, and with its end.
use Rattle.std.specs.Prelude.{ℕ, ◌+◌, ◌-◌, ◌≤◌, ◌<◌, Bool, true, false, List, [], ◌∷◌, ◌⊎◌, ◌≡◌, eqb, length, get_or, take}
use Rattle.lists.specs.Choice.{choose}
use Rattle.digits.specs.Wrote.{Wrote}
use Rattle.feeds.specs.Feed.{Feed, ended, after, said, last_words}

-- a line of the input, or what is left of one, starts at place k
abbrev pub Starts : (input : List ℕ) → (k : ℕ) → Type 0
Starts input k = (k ≡ 0) ⊎ (get_or input (k - 1) 0 ≡ 10)

-- The first `used` bytes of the input have been taken: the work stands where it stands after them, what it says to them is
-- written, and wherever a line started there was room for its reply.
pub record Going (f : Feed) (input out : List ℕ) (used written : ℕ) (f' : Feed) (out' : List ℕ) : Type 0 where
  pub feed : f' ≡ after f (take used input)
  pub text : Wrote out 0 (said f (take used input)) out' written
  pub within : used ≤ length input
  pub room : (k : ℕ) → k < used → Starts input k → length (said f (take k input)) + 600 ≤ length out

-- What became of a piece of input. Only where less than 600 bytes of room are left was it stopped before its end, and then where
-- a line starts. So `used` is one number (proofs/Used): the first start of a line with no room for its reply.
pub record FedTo (f : Feed) (input out : List ℕ) (used written : ℕ) (f' : Feed) (out' : List ℕ) : Type 0 where
  pub going : Going f input out used written f' out'
  pub stopped : used < length input → length out < written + 600
  pub at_start : used < length input → Starts input used

-- after the end of the input: a line that has a byte has ended too
unfoldable pub closing : Feed → Feed
closing f = choose (eqb (length f.held) 0) f (ended f)

-- The end of the input: done where there is room for a reply, and else nothing has changed.
pub data FinishedTo (f : Feed) (m out : List ℕ) : (done : Bool) (written : ℕ) (m' out' : List ℕ) → Type 0 where
  finished : {written : ℕ} {m' out' : List ℕ} → 600 ≤ length out → Wrote out 0 (last_words f) out' written
      → m' ≡ (closing f).session.scratch → FinishedTo f m out true written m' out'
  full : length out < 600 → FinishedTo f m out false 0 m out

-- Feeds one after another, each from where the one before it left the work: the part that each took of its piece, and the
-- text that it wrote. Where what a feed left of its piece begins the next piece, the parts joined are the input.
pub data Feeds : Feed → (parts texts : List (List ℕ)) → Feed → Type 0 where
  none : {f : Feed} → Feeds f [] [] f
  more : {f g h : Feed} {input out out' : List ℕ} {used written : ℕ} {parts texts : List (List ℕ)}
      → FedTo f input out used written g out' → Feeds g parts texts h → Feeds f (take used input ∷ parts) (take written out' ∷ texts) h
