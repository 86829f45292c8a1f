-- What holds of each element of a list, by the list's parts. Assumes nothing.
use Prim.Native.Nat.{ℕ, zero, suc, ◌<◌}
use mathlib.Core.List.{List, [], ◌∷◌, ◌++◌}
use mathlib.Core.Bool.{false}
use mathlib.Core.Path.{◌≡◌}
use native.Mathlib.Omega.{arith}
use lib.Dec.{eqb}
use lib.ListN.{length, get_or}

abbrev pub Throughout : (ℕ → Type 0) → List ℕ → Type 0
Throughout P l = (i : ℕ) → i < length l → P (get_or l i 0)

abbrev pub IsByte : ℕ → Type 0
IsByte b = b < 256

abbrev pub NotNewline : ℕ → Type 0
NotNewline b = eqb b 10 ≡ false

module _ (P : ℕ → Type 0) where
  pub all_none : Throughout P []
  all_none i h = absurd (omega arith)

  pub all_cons : (b : ℕ) (l : List ℕ) → P b → Throughout P l → Throughout P (b ∷ l)
  all_cons b l p f zero h = p
  all_cons b l p f (suc i) h = f i (omega arith)

  pub all_head : (b : ℕ) (l : List ℕ) → Throughout P (b ∷ l) → P b
  all_head b l f = f 0 (omega arith)

  pub all_tail : (b : ℕ) (l : List ℕ) → Throughout P (b ∷ l) → Throughout P l
  all_tail b l f i h = f (suc i) (omega arith)

  pub all_append : (a b : List ℕ) → Throughout P a → Throughout P b → Throughout P (a ++ b)
  all_append [] b f g = g
  all_append (x ∷ a) b f g = all_cons x (a ++ b) (all_head x a f) (all_append a b (all_tail x a f) g)
