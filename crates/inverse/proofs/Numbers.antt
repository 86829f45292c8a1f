-- A number that was read from a field of decimal digits is written as that field: a line has one text of each number. Assumes
-- nothing.
use Prim.Native.Nat.{ℕ, ◌+◌, ◌-◌, ◌*◌, ◌/◌, ◌%◌, ◌≤◌, ◌<◌}
use mathlib.Core.Bool.{true}
use mathlib.Core.List.{List, [], ◌∷◌, ◌++◌, append-nil, append_assoc}
use mathlib.Core.Path.{◌≡◌, refl, sym, ap, ap₂, ◌∙◌}
use native.Mathlib.Omega.{arith}
use lib.Dec.{eqb, leb}
use borrow.Author.Tests.{leb-true, eqb-false}
use Rattle.lists.specs.Choice.{both}
use Rattle.lists.proofs.Choice.{true_false, both_left, both_right, not_to}
use Rattle.model.specs.Lines.{is, digits, decimal_from, plain, number_field}
use Rattle.model.specs.Names.{digit}
use Rattle.model.specs.Session.{decimal}
use Rattle.digits.proofs.Decimals.{decimal_one, decimal_more}
use Rattle.fields.proofs.Spelling.{spelt_is}

-- a digit is 48 and its value
pub digit_low : (b : ℕ) → digit b ≡ true → 48 ≤ b
digit_low b y = leb-true 48 b (both_left (leb 48 b) (leb b 57) y)

pub digit_high : (b : ℕ) → digit b ≡ true → b ≤ 57
digit_high b y = leb-true b 57 (both_right (leb 48 b) (leb b 57) y)

from_least : (s : ℕ) (f : List ℕ) → s ≤ decimal_from s f
unfolding decimal_from
from_least s [] = omega arith
from_least s (b ∷ f) = omega (arith, from_least (s * 10 + (b - 48)) f)

-- one digit more
digit_after : (s b : ℕ) → 1 ≤ s → digit b ≡ true → s * 10 + (b - 48) < 18446744073709551616
    → decimal (s * 10 + (b - 48)) ≡ decimal s ++ (b ∷ [])
digit_after s b p y w =
    let l = digit_low b y in
    let h = digit_high b y in
    let e : (s * 10 + (b - 48)) / 10 ≡ s = omega arith in
    let d : 48 + (s * 10 + (b - 48)) % 10 ≡ b = omega arith in
    decimal_more (s * 10 + (b - 48)) (omega arith) w ∙ ap₂ (λ x c. decimal x ++ (c ∷ [])) e d

-- digits after a number that is not 0
digits_after : (s : ℕ) (f : List ℕ) → 1 ≤ s → digits f ≡ true → decimal_from s f < 18446744073709551616
    → decimal (decimal_from s f) ≡ decimal s ++ f
unfolding digits decimal_from
digits_after s [] p y w = sym (append-nil (decimal s))
digits_after s (b ∷ f) p y w =
    let d = both_left (digit b) (digits f) y in
    let v = s * 10 + (b - 48) in
    digits_after v f (omega arith) (both_right (digit b) (digits f) y) w
    ∙ ap (λ x. x ++ f) (digit_after s b p d (omega (arith, from_least v f)))
    ∙ append_assoc (decimal s) (b ∷ []) f

one_digit : (b : ℕ) → digit b ≡ true → decimal (b - 48) ≡ b ∷ []
one_digit b y =
    let l = digit_low b y in
    let h = digit_high b y in
    let e : 48 + (b - 48) ≡ b = omega arith in
    decimal_one (b - 48) (omega arith) ∙ ap (λ x. x ∷ []) e

first_value : (b : ℕ) (f : List ℕ) → decimal_from 0 (b ∷ f) ≡ decimal_from (b - 48) f
unfolding decimal_from
first_value b f = let e : 0 * 10 + (b - 48) ≡ b - 48 = omega arith in ap (λ s. decimal_from s f) e

-- "Numbers are decimal, no leading zeros": a text without them is its number's
digits_back : (f : List ℕ) → plain f ≡ true → digits f ≡ true → decimal_from 0 f < 18446744073709551616 → decimal (decimal_from 0 f) ≡ f
unfolding plain digits decimal_from
digits_back [] p y w = true_false p refl
digits_back (b ∷ []) p y w = ap decimal (first_value b []) ∙ one_digit b (both_left (digit b) true y)
digits_back (b ∷ c ∷ f) p y w =
    let d = both_left (digit b) (digits (c ∷ f)) y in
    let l = digit_low b d in
    let n = eqb-false b 48 (not_to (eqb b 48) p) in
    let e = first_value b (c ∷ f) in
    ap decimal e
    ∙ digits_after (b - 48) (c ∷ f) (omega arith) (both_right (digit b) (digits (c ∷ f)) y) (omega arith)
    ∙ ap (λ x. x ++ (c ∷ f)) (one_digit b d)

pub number_back : (f : List ℕ) (n : ℕ) → number_field f ≡ is n → decimal n ≡ f
unfolding number_field
number_back f n e =
    let s = spelt_is _ _ n e in
    let t = both_left (both (plain f) (digits f)) (leb (decimal_from 0 f) 4294967295) s.0 in
    let m = leb-true (decimal_from 0 f) 4294967295 (both_right _ _ s.0) in
    ap decimal (sym s.1) ∙ digits_back f (both_left (plain f) (digits f) t) (both_right (plain f) (digits f) t) (omega arith)
