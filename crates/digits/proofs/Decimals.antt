-- Decimal text by its last digit, and what holds at each turn of the loops that count and write digits. Assumes nothing.
use Prim.Native.Nat.{ℕ, zero, suc, ◌+◌, ◌*◌, ◌-◌, ◌^◌, ◌/◌, ◌%◌, ◌≤◌, ◌<◌}
use mathlib.Core.List.{List, [], ◌∷◌, ◌++◌, append-nil, append_assoc}
use mathlib.Core.Path.{◌≡◌, refl, sym, ap, ◌∙◌}
use native.Mathlib.Decide.{dec_le}
use native.Mathlib.Nat.{pow-suc}
use native.Mathlib.Omega.{arith}
use lib.ListN.{length, set, length-append, length-set}
use borrow.Author.Tests.{lt-ltb, le-ltb}
use Rattle.lists.specs.Bytes.{over}
use Rattle.lists.proofs.Choice.{yes!, no! }
use Rattle.model.specs.Session.{decimal_by, decimal}
use Rattle.digits.specs.Wrote.{Wrote}
use Rattle.digits.proofs.Writing.{over_none, over_before_one}

by_one : (k n : ℕ) → n < 10 → decimal_by (suc k) n ≡ (48 + n) ∷ []
unfolding decimal_by
by_one k n h = yes! _ _ (lt-ltb n 10 h)

by_more : (k n : ℕ) → 10 ≤ n → decimal_by (suc k) n ≡ decimal_by k (n / 10) ++ ((48 + n % 10) ∷ [])
unfolding decimal_by
by_more k n h = no! _ _ (le-ltb n 10 h)

-- a place more than is needed changes nothing
by_enough : (k n : ℕ) → n < 10 ^ suc k → decimal_by (suc k) n ≡ decimal_by (suc (suc k)) n
by_enough zero n h = by_one 0 n (omega arith) ∙ sym (by_one 1 n (omega arith))
by_enough (suc k) n h = go (dec_le 10 n) (by_enough k (n / 10) (omega (arith, pow-suc 10 (suc k))))
  where
    go : Dec (10 ≤ n) → decimal_by (suc k) (n / 10) ≡ decimal_by (suc (suc k)) (n / 10) → decimal_by (suc (suc k)) n ≡ decimal_by (suc (suc (suc k))) n
    go (no l) e = by_one (suc k) n (omega arith) ∙ sym (by_one (suc (suc k)) n (omega arith))
    go (yes l) e = by_more (suc k) n l ∙ ap (λ x. x ++ ((48 + n % 10) ∷ [])) e ∙ sym (by_more (suc (suc k)) n l)

-- numbers of 64 bits
abbrev pub Wide : ℕ → Type 0
Wide n = n < 18446744073709551616

pub decimal_one : (n : ℕ) → n < 10 → decimal n ≡ (48 + n) ∷ []
decimal_one n h = by_one 19 n h

pub decimal_more : (n : ℕ) → 10 ≤ n → Wide n → decimal n ≡ decimal (n / 10) ++ ((48 + n % 10) ∷ [])
decimal_more n h w = by_more 19 n h ∙ ap (λ x. x ++ ((48 + n % 10) ∷ [])) (by_enough 18 (n / 10) (omega arith))

short_by : (k n : ℕ) → length (decimal_by k n) ≤ k
unfolding decimal_by
short_by zero n = omega arith
short_by (suc k) n = go (dec_le 10 n) (short_by k (n / 10))
  where
    go : Dec (10 ≤ n) → length (decimal_by k (n / 10)) ≤ k → length (decimal_by (suc k) n) ≤ suc k
    go (no l) b = rw (by_one k n (omega arith)) (omega arith)
    go (yes l) b = rw (by_more k n l, length-append) (omega arith)

pub decimal_short : (n : ℕ) → length (decimal n) ≤ 20
decimal_short n = short_by 20 n

-- what holds of each number of one digit, and of a number where it holds of all its digits but the last, holds of all
module _ (P : ℕ → Type 0) (one : (n : ℕ) → n < 10 → P n) (more : (n : ℕ) → 10 ≤ n → Wide n → P (n / 10) → P n) where
  tenths_by : (k n : ℕ) → n < 10 ^ suc k → Wide n → P n
  tenths_by zero n h w = one n (omega arith)
  tenths_by (suc k) n h w = go (dec_le 10 n) (tenths_by k (n / 10) (omega (arith, pow-suc 10 (suc k))) (omega arith))
    where
      go : Dec (10 ≤ n) → P (n / 10) → P n
      go (no l) p = one n (omega arith)
      go (yes l) p = more n l w p

  pub by_tenths : (n : ℕ) → Wide n → P n
  by_tenths n w = tenths_by 19 n (omega arith) w

-- how many digits
pub digits_one : (n : ℕ) → n < 10 → length (decimal n) ≡ 1
digits_one n h = ap length (decimal_one n h)

pub digits_more : (n : ℕ) → 10 ≤ n → Wide n → length (decimal n) ≡ length (decimal (n / 10)) + 1
digits_more n h w = ap length (decimal_more n h w) ∙ length-append (decimal (n / 10)) ((48 + n % 10) ∷ [])

digits_some : (n : ℕ) → Wide n → 1 ≤ length (decimal n)
digits_some =
    by_tenths (λ n. 1 ≤ length (decimal n))
    (λ n h. omega (arith, digits_one n h))
    (λ n h w p. omega (arith, digits_more n h w))

pow_pos_ten : (k : ℕ) → 1 ≤ 10 ^ k
pow_pos_ten zero = omega arith
pow_pos_ten (suc k) = omega (arith, pow-suc 10 k, pow_pos_ten k)

pub count_by : (k n : ℕ) → Wide n → 10 ^ k ≤ n → n < 10 * 10 ^ k → length (decimal n) ≡ k + 1
count_by zero n w l h = digits_one n (omega arith)
count_by (suc k) n w l h =
    let p = pow-suc 10 k in
    digits_more n (omega (arith, p, pow_pos_ten k)) w ∙ omega (arith, count_by k (n / 10) (omega (arith, w)) (omega (arith, p)) (omega (arith, p)))

pub count_zero : (n : ℕ) → n ≡ 0 → length (decimal n) ≡ 1
count_zero n e = digits_one n (omega arith)

-- The digits from place i on are written, and t is o with them; those of rest are still to be written before it.
pub record Digits (o : List ℕ) (a n : ℕ) (t : List ℕ) (i rest : ℕ) : Type 0 where
  pub tail : List ℕ
  pub whole : decimal n ≡ decimal rest ++ tail
  pub left : i ≡ a + length (decimal rest)
  pub wide : Wide rest
  pub inside : i ≤ length o
  pub room : a + length (decimal n) ≤ length o
  pub long : length t ≡ length o
  pub bytes : t ≡ over o i tail

pub digits_start : (o : List ℕ) (a n k : ℕ) → Wide n → k ≡ length (decimal n) → a + 20 ≤ length o → Digits o a n o (a + k) n
digits_start o a n k w e h =
    let d = decimal_short n in
    record {
      tail = [];
      whole = sym (append-nil (decimal n));
      left = omega arith;
      wide = w;
      inside = omega arith;
      room = omega arith;
      long = refl;
      bytes = over_none o (a + k);
    }

-- where one place is left, one digit is; where more are, more are
digits_first : (n : ℕ) → Wide n → length (decimal n) ≤ 1 → n < 10
digits_first n w h = go (dec_le 10 n)
  where
    go : Dec (10 ≤ n) → n < 10
    go (yes l) = absurd (omega (arith, digits_more n l w, digits_some (n / 10) (omega arith)))
    go (no l) = omega arith

digits_others : (n : ℕ) → 1 < length (decimal n) → 10 ≤ n
digits_others n h = go (dec_le 10 n)
  where
    go : Dec (10 ≤ n) → 10 ≤ n
    go (yes l) = l
    go (no l) = absurd (omega (arith, digits_one n (omega arith)))

module _ (o : List ℕ) (a n : ℕ) (t : List ℕ) (i rest : ℕ) (c : Digits o a n t i rest) where
  -- one digit more, right before those written
  written : (d : ℕ) → 1 ≤ i → set t (i - 1) d ≡ over o (i - 1) (d ∷ c.tail)
  written d h =
      let e : i ≡ i - 1 + 1 = omega arith in
      ap (λ x. set x (i - 1) d) (c.bytes ∙ ap (λ j. over o j c.tail) e) ∙ over_before_one o (i - 1) d c.tail (omega (arith, c.inside))

  pub digits_turn : a + 1 < i → Digits o a n (set t (i - 1) (48 + rest % 10)) (i - 1) (rest / 10)
  digits_turn h =
      let l = digits_others rest (omega (arith, c.left)) in
      let d = 48 + rest % 10 in
      record {
        tail = d ∷ c.tail;
        whole = c.whole ∙ rw (decimal_more rest l c.wide, append_assoc);
        left = omega (arith, c.left, digits_more rest l c.wide);
        wide = omega (arith, c.wide);
        inside = omega (arith, c.inside);
        room = c.room;
        long = length-set t (i - 1) d ∙ c.long;
        bytes = written d (omega arith);
      }

  pub digits_last : i ≤ a + 1 → rest < 10
  digits_last h = digits_first rest c.wide (omega (arith, c.left))

  pub digits_end : (k : ℕ) → i ≤ a + 1 → k ≡ length (decimal n) → Wrote o a (decimal n) (set t a (48 + rest)) (a + k)
  digits_end k h e =
      let l = digits_last h in
      let p : i - 1 ≡ a = omega (arith, c.left, digits_one rest l) in
      let w : decimal n ≡ (48 + rest) ∷ c.tail = c.whole ∙ ap (λ x. x ++ c.tail) (decimal_one rest l) in
      record { room = c.room; place = omega arith; bytes = rw (w, ← p) (written (48 + rest) (omega (arith, c.left, digits_one rest l))) }
