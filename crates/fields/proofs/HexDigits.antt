-- Hexadecimal digits, as a search for a byte that is none finds them. Assumes nothing.
use Rattle.std.proofs.Common.{◌≡◌, ℕ, zero, suc, ◌<◌, ◌≤◌, Bool, true, false, eqb, List, [], ◌∷◌, length, get_or, sym, refl, arith, eqb-true}
use borrow.Author.Tests.{eqb-false}
use Rattle.lists.proofs.Choice.{both_no, both_not, both_intro}
use Rattle.model.specs.Lines.{hex_digit, hex_digits}

all_pass : (f : List ℕ) → ((k : ℕ) → k < length f → hex_digit (get_or f k 0) ≡ true) → hex_digits f ≡ true
unfolding hex_digits
all_pass [] h = refl
all_pass (b ∷ f) h = both_intro (hex_digit b) (hex_digits f) (h 0 (omega arith)) (all_pass f (λ k l. h (suc k) (omega arith)))

one_fails : (f : List ℕ) (k : ℕ) → k < length f → hex_digit (get_or f k 0) ≡ false → hex_digits f ≡ false
unfolding hex_digits
one_fails [] k l n = absurd (omega arith)
one_fails (b ∷ f) zero l n = both_no (hex_digits f) n
one_fails (b ∷ f) (suc k) l n = both_not (hex_digit b) (hex_digits f) (one_fails f k (omega arith) n)

-- r is the place of the first byte that is none, or the length
pub hex_until : (f : List ℕ) (r : ℕ) → r ≤ length f → ((k : ℕ) → k < r → hex_digit (get_or f k 0) ≡ true) → (r < length f → hex_digit (get_or f r 0) ≡ false) → eqb r (length f) ≡ hex_digits f
hex_until f r m h n = go (eqb r (length f)) refl
  where
    go : (t : Bool) → eqb r (length f) ≡ t → t ≡ hex_digits f
    go true y = let e = eqb-true r (length f) y in sym (all_pass f (λ k l. h k (omega arith)))
    go false y = let e = eqb-false r (length f) y in let l : r < length f = omega arith in sym (one_fails f r l (n l))
