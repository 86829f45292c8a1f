-- Bytes that were read from a field of hex pairs are written as that field. Assumes nothing.
use Prim.Native.Nat.{ℕ, ◌+◌, ◌-◌, ◌*◌, ◌/◌, ◌%◌, ◌≤◌, ◌<◌}
use mathlib.Core.Bool.{true}
use mathlib.Core.List.{List, [], ◌∷◌}
use mathlib.Core.Logic.{◌⊎◌, inl, inr}
use mathlib.Core.Path.{◌≡◌, refl, ap, ap₂, ◌∙◌}
use native.Mathlib.Omega.{arith}
use lib.Dec.{eqb, leb}
use lib.ListN.{length, take}
use lib.Seq.{take_all}
use borrow.Author.Tests.{leb-true, eqb-true, lt-ltb, le-ltb, lt-leb}
use Rattle.lists.specs.Choice.{both}
use Rattle.lists.proofs.Choice.{both_left, both_right, both_not, either_to, yes!, no! }
use Rattle.model.specs.Lines.{is, hex_digit, hex_value, hex_digits, hex_field, hex_bytes}
use Rattle.model.specs.Names.{digit}
use Rattle.model.specs.Session.{hex_letter, hex_text}
use Rattle.fields.proofs.Spelling.{spelt_is}
use Rattle.inverse.proofs.Numbers.{digit_low, digit_high}

-- a hex digit's value is below 16, and has that digit for its letter
record Letter (b : ℕ) : Type 0 where
  small : hex_value b < 16
  same : hex_letter (hex_value b) ≡ b

low_letter : (b : ℕ) → digit b ≡ true → Letter b
unfolding hex_value hex_letter
low_letter b y =
    let l = digit_low b y in
    let h = digit_high b y in
    let e : hex_value b ≡ b - 48 = yes! _ _ y in
    record { small = omega arith; same = rw e (yes! _ _ (lt-ltb (b - 48) 10 (omega arith)) ∙ omega arith) }

high_letter : (b : ℕ) → both (leb 65 b) (leb b 70) ≡ true → Letter b
unfolding hex_value hex_letter
high_letter b y =
    let l = leb-true 65 b (both_left (leb 65 b) (leb b 70) y) in
    let h = leb-true b 70 (both_right (leb 65 b) (leb b 70) y) in
    let e : hex_value b ≡ b - 55 = no! _ _ (both_not (leb 48 b) (leb b 57) (lt-leb b 57 (omega arith))) in
    record { small = omega arith; same = rw e (no! _ _ (le-ltb (b - 55) 10 (omega arith)) ∙ omega arith) }

letter_of : (b : ℕ) → hex_digit b ≡ true → Letter b
unfolding hex_digit
letter_of b y = go (either_to (digit b) _ y)
  where
    go : (digit b ≡ true) ⊎ (both (leb 65 b) (leb b 70) ≡ true) → Letter b
    go (inl d) = low_letter b d
    go (inr u) = high_letter b u

-- pairs of hex digits, byte by byte
hex_half : (f : List ℕ) → length (hex_bytes f) ≡ length f / 2
unfolding hex_bytes
hex_half [] = omega arith
hex_half (h ∷ []) = omega arith
hex_half (h ∷ l ∷ f) = omega (arith, hex_half f)

hexes_back : (f : List ℕ) → length f % 2 ≡ 0 → hex_digits f ≡ true → hex_text (hex_bytes f) ≡ f
unfolding hex_bytes hex_text hex_digits
hexes_back [] e y = refl
hexes_back (h ∷ []) e y = absurd (omega arith)
hexes_back (h ∷ l ∷ f) e y =
    let a = letter_of h (both_left (hex_digit h) _ y) in
    let r = both_right (hex_digit h) _ y in
    let b = letter_of l (both_left (hex_digit l) _ r) in
    let i : (hex_value h * 16 + hex_value l) / 16 ≡ hex_value h = omega (arith, a.small, b.small) in
    let j : (hex_value h * 16 + hex_value l) % 16 ≡ hex_value l = omega (arith, a.small, b.small) in
    ap₂ ◌∷◌ (ap hex_letter i ∙ a.same) (ap₂ ◌∷◌ (ap hex_letter j ∙ b.same) (hexes_back f (omega arith) (both_right (hex_digit l) _ r)))

-- a data field as it was read: its bytes, as many as it spells and no more than 257
pub record Pairs (f : List ℕ) (n : ℕ) : Type 0 where
  pub count : length (hex_bytes f) ≡ n
  pub most : n ≤ 257
  pub back : hex_text (take n (hex_bytes f)) ≡ f

pub hex_back : (f : List ℕ) (n : ℕ) → hex_field f ≡ is n → Pairs f n
unfolding hex_field
hex_back f n e =
    let s = spelt_is _ (length f / 2) n e in
    let t = both_left (both (eqb (length f % 2) 0) (leb (length f) 514)) (hex_digits f) s.0 in
    let m = leb-true (length f) 514 (both_right (eqb (length f % 2) 0) _ t) in
    let c : length (hex_bytes f) ≡ n = hex_half f ∙ s.1 in
    record {
      count = c;
      most = omega (arith, s.1);
      back = ap hex_text (take_all n (hex_bytes f) (omega arith))
          ∙ hexes_back f (eqb-true (length f % 2) 0 (both_left _ _ t)) (both_right _ _ s.0);
    }
