-- Hex text by its pairs, and what holds at each turn of the loop that writes them. Assumes nothing.
use Prim.Native.Nat.{ℕ, ◌+◌, ◌*◌, ◌/◌, ◌%◌, ◌≤◌, ◌<◌}
use mathlib.Core.List.{List, [], ◌∷◌, ◌++◌}
use mathlib.Core.Path.{◌≡◌, refl, sym, ap, ◌∙◌}
use native.Mathlib.Numerals.{add-one}
use native.Mathlib.Omega.{arith}
use lib.ListN.{length, get_or, set, take, length-set}
use lib.Seq.{take-suc, take_all}
use Rattle.model.specs.Session.{hex_letter, hex_text}
use Rattle.digits.specs.Wrote.{Wrote}
use Rattle.digits.proofs.Writing.{wrote_none, wrote_one, wrote_long, wrote_more}

pub hex_append : (x y : List ℕ) → hex_text (x ++ y) ≡ hex_text x ++ hex_text y
unfolding hex_text
hex_append [] y = refl
hex_append (b ∷ x) y = ap (λ r. hex_letter (b / 16) ∷ hex_letter (b % 16) ∷ r) (hex_append x y)

pub hex_length : (x : List ℕ) → length (hex_text x) ≡ 2 * length x
unfolding hex_text
hex_length [] = refl
hex_length (b ∷ x) = omega (arith, hex_length x)

-- the two letters of a byte
pair_set : (t : List ℕ) (p v : ℕ) {y z : ℕ} → p + 2 ≤ length t → y ≡ hex_letter (v / 16) → z ≡ hex_letter (v % 16)
    → Wrote t p (hex_text (v ∷ [])) (set (set t p y) (p + 1) z) (p + 2)
unfolding hex_text
pair_set t p v {y} {z} h e f =
    let q : p + 1 + 1 ≡ p + 2 = omega arith in
    let l = length-set t p y in
    let w : Wrote t p (y ∷ z ∷ []) (set (set t p y) (p + 1) z) (p + 1 + 1) =
    wrote_more (wrote_one t p y (omega arith)) (wrote_one (set t p y) (p + 1) z (omega (arith, l))) in
    rw (← e, ← f, ← q) w

-- i of the bytes x are written
pub record Paired (o : List ℕ) (a : ℕ) (x t : List ℕ) (i : ℕ) : Type 0 where
  pub below : i ≤ length x
  pub long : length t ≡ length o
  pub text : Wrote o a (hex_text (take i x)) t (a + 2 * i)

pub hex_start : (o : List ℕ) (a : ℕ) (x : List ℕ) → a + 2 * length x ≤ length o → Paired o a x o 0
unfolding hex_text
hex_start o a x h = let z : a + 0 ≡ a = omega arith in record { below = omega arith; long = refl; text = rw z (wrote_none o a (omega arith)) }

pub hex_turn : (o : List ℕ) (a : ℕ) (x t : List ℕ) (i : ℕ) {y z : ℕ} → a + 2 * length x ≤ length o → Paired o a x t i → i < length x
    → y ≡ hex_letter (get_or x i 0 / 16) → z ≡ hex_letter (get_or x i 0 % 16) → Paired o a x (set (set t (a + 2 * i) y) (a + 2 * i + 1) z) (i + 1)
hex_turn o a x t i room k h e f =
    let w = pair_set t (a + 2 * i) (get_or x i 0) (omega (arith, k.long)) e f in
    let n : hex_text (take i x) ++ hex_text (get_or x i 0 ∷ []) ≡ hex_text (take (i + 1) x) =
    sym (ap (λ j. hex_text (take j x)) (add-one i) ∙ ap hex_text (take-suc x i 0 h) ∙ hex_append (take i x) (get_or x i 0 ∷ [])) in
    let q : a + 2 * i + 2 ≡ a + 2 * (i + 1) = omega arith in
    record { below = omega arith; long = wrote_long w ∙ k.long; text = rw (n, q) at (wrote_more k.text w) }

pub hex_end : (o : List ℕ) (a : ℕ) (x t : List ℕ) (i : ℕ) → Paired o a x t i → length x ≤ i → Wrote o a (hex_text x) t (a + 2 * length x)
hex_end o a x t i k h = let q : i ≡ length x = omega (arith, k.below) in rw (take_all i x h, q) at k.text
