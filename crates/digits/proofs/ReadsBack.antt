-- What is printed can be read: decimal text spells its number, with digits only and no zero first, and hex text its bytes, in
-- upper case. Assumes nothing.
use Prim.Native.Nat.{ℕ, suc, ◌+◌, ◌-◌, ◌*◌, ◌/◌, ◌%◌, ◌≤◌, ◌<◌}
use mathlib.Core.Bool.{Bool, true, false, not}
use mathlib.Core.List.{List, [], ◌∷◌, ◌++◌}
use mathlib.Core.Path.{◌≡◌, refl, sym, ap, ap₂, ◌∙◌}
use native.Mathlib.Decide.{dec_le}
use native.Mathlib.Omega.{arith}
use lib.Dec.{eqb, leb}
use lib.ListN.{length, get_or}
use borrow.Author.Tests.{lt-ltb, le-ltb, le-leb, lt-leb, eq-eqb, ne_eqb}
use Rattle.lists.specs.Choice.{both}
use Rattle.lists.proofs.Choice.{true_false, yes!, no!, not_of, both_left, both_right, both_intro, both_not, either_left, either_right}
use Rattle.model.specs.Lines.{is, spelt, digits, decimal_from, plain, number_field, hex_digit, hex_value, hex_digits, hex_field, hex_bytes}
use Rattle.model.specs.Names.{digit}
use Rattle.model.specs.Session.{decimal, hex_letter, hex_text}
use Rattle.digits.proofs.Decimals.{Wide, decimal_one, decimal_more, by_tenths}
use Rattle.digits.proofs.Hexes.{hex_length}

-- a digit more
from_more : (s : ℕ) (x : List ℕ) (d : ℕ) → decimal_from s (x ++ ((48 + d) ∷ [])) ≡ decimal_from s x * 10 + d
unfolding decimal_from
from_more s [] d = omega arith
from_more s (b ∷ x) d = from_more (s * 10 + (b - 48)) x d

is_digit : (d : ℕ) → d < 10 → digit (48 + d) ≡ true
is_digit d h = both_intro (leb 48 (48 + d)) (leb (48 + d) 57) (le-leb 48 (48 + d) (omega arith)) (le-leb (48 + d) 57 (omega arith))

digits_end : (x : List ℕ) (d : ℕ) → d < 10 → digits x ≡ true → digits (x ++ ((48 + d) ∷ [])) ≡ true
unfolding digits
digits_end [] d h e = both_intro (digit (48 + d)) true (is_digit d h) refl
digits_end (b ∷ x) d h e = both_intro (digit b) _ (both_left (digit b) _ e) (digits_end x d h (both_right (digit b) _ e))

-- the first byte is no zero
leads : List ℕ → Bool
leads [] = false
leads (b ∷ x) = not (eqb b 48)

leads_end : (x : List ℕ) (d : ℕ) → leads x ≡ true → leads (x ++ (d ∷ [])) ≡ true
unfolding leads
leads_end [] d e = true_false refl (sym e)
leads_end (b ∷ x) d e = e

leads_plain : (x : List ℕ) (d : ℕ) → leads x ≡ true → plain (x ++ (d ∷ [])) ≡ true
unfolding leads plain
leads_plain [] d e = true_false refl (sym e)
leads_plain (b ∷ []) d e = e
leads_plain (b ∷ c ∷ x) d e = e

decimal_leads : (n : ℕ) → Wide n → 1 ≤ n → leads (decimal n) ≡ true
unfolding leads
decimal_leads =
    by_tenths (λ n. 1 ≤ n → leads (decimal n) ≡ true)
    (λ n h p. rw (decimal_one n h) (not_of (eqb (48 + n) 48) (ne_eqb (48 + n) 48 (λ z. omega arith))))
    (λ n h w f p. rw (decimal_more n h w) (leads_end (decimal (n / 10)) (48 + n % 10) (f (omega arith))))

-- "Numbers are decimal, no leading zeros"
pub decimal_read : (n : ℕ) → n < 18446744073709551616 → decimal_from 0 (decimal n) ≡ n
unfolding decimal_from
decimal_read =
    by_tenths (λ n. decimal_from 0 (decimal n) ≡ n)
    (λ n h. rw (decimal_one n h) (omega arith))
    (λ n h w e. rw (decimal_more n h w) (from_more 0 (decimal (n / 10)) (n % 10) ∙ ap (λ x. x * 10 + n % 10) e ∙ omega arith))

pub decimal_digits : (n : ℕ) → n < 18446744073709551616 → digits (decimal n) ≡ true
unfolding digits
decimal_digits =
    by_tenths (λ n. digits (decimal n) ≡ true)
    (λ n h. rw (decimal_one n h) (digits_end [] n h refl))
    (λ n h w e. rw (decimal_more n h w) (digits_end (decimal (n / 10)) (n % 10) (omega arith) e))

pub decimal_plain : (n : ℕ) → n < 18446744073709551616 → plain (decimal n) ≡ true
unfolding plain
decimal_plain n w = go (dec_le 10 n)
  where
    go : Dec (10 ≤ n) → plain (decimal n) ≡ true
    go (no l) = rw (decimal_one n (omega arith))
    go (yes l) = rw (decimal_more n l w) (leads_plain (decimal (n / 10)) (48 + n % 10) (decimal_leads (n / 10) (omega arith) (omega arith)))

-- a printed identification or token is a number field that spells it
pub number_read : (n : ℕ) → n ≤ 4294967295 → number_field (decimal n) ≡ is n
unfolding number_field spelt both
number_read n h =
    rw (decimal_plain n (omega arith), decimal_digits n (omega arith), decimal_read n (omega arith), le-leb n 4294967295 h)

-- the letter of a hex digit, by its two kinds
hex_low : (d : ℕ) → d < 10 → hex_letter d ≡ 48 + d
unfolding hex_letter
hex_low d h = yes! (48 + d) (55 + d) (lt-ltb d 10 h)

hex_high : (d : ℕ) → 10 ≤ d → hex_letter d ≡ 55 + d
unfolding hex_letter
hex_high d h = no! (48 + d) (55 + d) (le-ltb d 10 h)

no_digit : (d : ℕ) → 10 ≤ d → digit (55 + d) ≡ false
no_digit d h = both_not (leb 48 (55 + d)) (leb (55 + d) 57) (lt-leb (55 + d) 57 (omega arith))

letter_value : (d : ℕ) → d < 16 → hex_value (hex_letter d) ≡ d
unfolding hex_value
letter_value d h = go (dec_le 10 d)
  where
    go : Dec (10 ≤ d) → hex_value (hex_letter d) ≡ d
    go (no l) = rw (hex_low d (omega arith)) (yes! (48 + d - 48) (48 + d - 55) (is_digit d (omega arith)) ∙ omega arith)
    go (yes l) = rw (hex_high d l) (no! (55 + d - 48) (55 + d - 55) (no_digit d l) ∙ omega arith)

letter_hex : (d : ℕ) → d < 16 → hex_digit (hex_letter d) ≡ true
unfolding hex_digit
letter_hex d h = go (dec_le 10 d)
  where
    go : Dec (10 ≤ d) → hex_digit (hex_letter d) ≡ true
    go (no l) = rw (hex_low d (omega arith)) (either_left (digit (48 + d)) _ (is_digit d (omega arith)))
    go (yes l) =
        rw (hex_high d l) (either_right (digit (55 + d)) _ (both_intro (leb 65 (55 + d)) (leb (55 + d) 70) (le-leb 65 (55 + d) (omega arith)) (le-leb (55 + d) 70 (omega arith))))

-- "store data as uppercase hex pairs": fetched bytes are printed as STORE reads them
pub hex_read : (x : List ℕ) → ((k : ℕ) → k < length x → get_or x k 0 < 256) → hex_bytes (hex_text x) ≡ x
unfolding hex_text hex_bytes
hex_read [] h = refl
hex_read (b ∷ x) h =
    let l : b < 256 = h 0 (omega arith) in
    ap₂ ◌∷◌
    (ap₂ (λ i j. i * 16 + j) (letter_value (b / 16) (omega arith)) (letter_value (b % 16) (omega arith)) ∙ omega arith)
    (hex_read x (λ k i. h (suc k) (omega arith)))

pub hex_digits_lem : (x : List ℕ) → ((k : ℕ) → k < length x → get_or x k 0 < 256) → hex_digits (hex_text x) ≡ true
unfolding hex_text hex_digits
hex_digits_lem [] h = refl
hex_digits_lem (b ∷ x) h =
    let l : b < 256 = h 0 (omega arith) in
    both_intro _ _ (letter_hex (b / 16) (omega arith)) (both_intro _ _ (letter_hex (b % 16) (omega arith)) (hex_digits_lem x (λ k i. h (suc k) (omega arith))))

pub field_read : (x : List ℕ) → ((k : ℕ) → k < length x → get_or x k 0 < 256) → length x ≤ 257 → hex_field (hex_text x) ≡ is (length x)
unfolding hex_field spelt both
field_read x h l =
    let e : 2 * length x % 2 ≡ 0 = omega arith in
    let d : 2 * length x / 2 ≡ length x = omega arith in
    rw (hex_length x, hex_digits_lem x h, eq-eqb (2 * length x % 2) 0 e, le-leb (2 * length x) 514 (omega arith), d)
