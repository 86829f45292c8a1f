-- Pairs of digits become bytes. Assumes nothing.
use lib.ListN.{drop, length-drop, length-append, get_or-append}
use lib.Seq.{drop-drop, get_or-drop, drop-append_seam}
use Rattle.std.proofs.Common.{sym, ◌++◌, ◌≡◌, ℕ, zero, suc, ◌+◌, ◌*◌, ◌/◌, ◌%◌, ◌<◌, ◌≤◌, true, List, [], ◌∷◌, length, get_or, set, refl, ap, ◌∙◌, ap₂, arith, length-set}
use Rattle.lists.specs.Bytes.{over, part}
use Rattle.lists.proofs.Bytes.{part_all, copy_none, copy_turn}
use Rattle.lists.proofs.Choice.{both_left, both_right}
use Rattle.model.specs.Lines.{hex_digit, hex_value, hex_digits, hex_bytes}

digit_at : (f : List ℕ) (i : ℕ) → hex_digits f ≡ true → i < length f → hex_digit (get_or f i 0) ≡ true
unfolding hex_digits
digit_at [] i e h = absurd (omega arith)
digit_at (b ∷ f) zero e h = both_left (hex_digit b) (hex_digits f) e
digit_at (b ∷ f) (suc i) e h = digit_at f i (both_right (hex_digit b) (hex_digits f) e) (omega arith)

pub bytes_length : (f : List ℕ) → length (hex_bytes f) ≡ length f / 2
unfolding hex_bytes
bytes_length [] = refl
bytes_length (h ∷ []) = refl
bytes_length (h ∷ l ∷ f) = omega (arith, bytes_length f)

byte_at : (f : List ℕ) (i : ℕ) → i + i + 1 < length f → hex_value (get_or f (i + i) 0) * 16 + hex_value (get_or f (i + i + 1) 0) ≡ get_or (hex_bytes f) i 0
unfolding hex_bytes
byte_at [] i h = absurd (omega arith)
byte_at (x ∷ []) i h = absurd (omega arith)
byte_at (x ∷ y ∷ f) zero h = refl
byte_at (x ∷ y ∷ f) (suc i) h =
    let a : suc i + suc i ≡ suc (suc (i + i)) = omega arith in
    let b : suc i + suc i + 1 ≡ suc (suc (i + i + 1)) = omega arith in
    ap₂ (λ j k. hex_value (get_or (x ∷ y ∷ f) j 0) * 16 + hex_value (get_or (x ∷ y ∷ f) k 0)) a b ∙ byte_at f i (omega arith)

-- i of the bytes of f stand over the first of o, and r is what is left of f, to be cut into pieces of n digits
pub record Decoded (f o t r : List ℕ) (n i : ℕ) : Type 0 where
  pub digits : hex_digits f ≡ true
  pub room : length f / 2 ≤ length o
  pub most : i ≤ length f / 2
  pub long : length t ≡ length o
  pub is : t ≡ over o 0 (part (hex_bytes f) 0 i)
  pub rest : r ≡ drop (i + i) f
  pub two : n ≡ 2

pub decoded_none : (f o r : List ℕ) (n i : ℕ) → hex_digits f ≡ true → length f / 2 ≤ length o → r ≡ f → n ≡ 2 → i ≡ 0 → Decoded f o o r n i
decoded_none f o r n i d h e w z = rw z (record { digits = d; room = h; most = omega arith; long = refl; is = copy_none o (hex_bytes f); rest = e; two = w })

-- the next two digits g, and what follows them
module _ (f o t r g s : List ℕ) (n i : ℕ) (d : Decoded f o t r n i) (q : r ≡ g ++ s) (l : length g ≡ n) where
  two_digits : length g ≡ 2
  two_digits = l ∙ d.two

  inside : i < length f / 2
  inside = omega (arith, two_digits, ap length (sym d.rest ∙ q), length-drop (i + i) f, length-append g s)

  digit_is : (k : ℕ) → k < 2 → get_or g k 0 ≡ get_or f (i + i + k) 0
  digit_is k h = sym (get_or-append g s 0 k (omega (arith, two_digits))) ∙ ap (λ x. get_or x k 0) (sym q ∙ d.rest) ∙ get_or-drop (i + i) f k 0

  pub decoded_room : i < length t
  decoded_room = omega (arith, inside, d.long, d.room)

  -- as one number x
  module _ (x : ℕ) where
    pub decoded_first : x % 256 ≡ get_or g 0 0 → hex_digit (x % 256) ≡ true
    decoded_first p = ap hex_digit (p ∙ digit_is 0 (omega arith)) ∙ digit_at f (i + i + 0) d.digits (omega (arith, inside))

    pub decoded_second : x / 256 ≡ get_or g 1 0 → hex_digit (x / 256) ≡ true
    decoded_second p = ap hex_digit (p ∙ digit_is 1 (omega arith)) ∙ digit_at f (i + i + 1) d.digits (omega (arith, inside))

    pub decoded_turn : (y j k m : ℕ) → x % 256 ≡ get_or g 0 0 → x / 256 ≡ get_or g 1 0 → y ≡ hex_value (x % 256) * 16 + hex_value (x / 256) → j ≡ i → k ≡ i + 1 → m ≡ n → Decoded f o (set t j y) s m k
    decoded_turn y j k m p u e a b c =
        let z : i + i + 0 ≡ i + i = omega arith in
        let two : i + 1 + (i + 1) ≡ i + i + length g = omega (arith, two_digits) in
        rw (a, b) (record {
          digits = d.digits;
          room = d.room;
          most = omega (arith, inside);
          long = length-set t i y ∙ d.long;
          is =
              copy_turn o (hex_bytes f) t i y 0 d.is (omega (arith, inside, bytes_length f)) (omega (arith, inside, d.room))
              (e ∙ ap₂ (λ a b. hex_value a * 16 + hex_value b) (p ∙ digit_is 0 (omega arith) ∙ ap (λ h. get_or f h 0) z) (u ∙ digit_is 1 (omega arith)) ∙ byte_at f i (omega (arith, inside)));
          rest = sym (ap (λ h. drop h f) two ∙ sym (drop-drop (length g) (i + i) f) ∙ ap (drop (length g)) (sym d.rest ∙ q) ∙ drop-append_seam g s);
          two = c ∙ d.two;
        })

pub decoded_end : (f o t r : List ℕ) (n i : ℕ) → Decoded f o t r n i → length r < n → t ≡ over o 0 (hex_bytes f)
decoded_end f o t r n i d h =
    d.is ∙ ap (over o 0) (part_all (hex_bytes f) i (omega (arith, h, d.two, ap length d.rest, length-drop (i + i) f, bytes_length f)))
