-- A field is read byte by byte: what the rest of it tells is told by the next byte and the rest after it. Assumes nothing.
use Rattle.std.proofs.Common.{Option, None, ◌≡◌, ℕ, suc, ◌+◌, ◌-◌, ◌*◌, ◌^◌, ◌<◌, ◌≤◌, Bool, true, false, not, eqb, leb, List, [], ◌∷◌, ◌++◌, length, get_or, replicate, sym, refl, ap, ◌∙◌, ⊎_elim, mul-le-mul_right, pow-suc, add-one, arith, w64, Fits, eq-eqb, ne_eqb, le-leb}
use native.Mathlib.Nat.{pow-le-pow_right}
use Rattle.std.specs.Int.{IsOutOfRange}
use Rattle.lists.specs.Choice.{both}
use Rattle.lists.proofs.Choice.{both_yes, both_no, both_intro, not_of}
use Rattle.model.specs.Names.{digit}
use Rattle.model.specs.Lines.{spelt, plain, digits, decimal_from, number_field, no_blank, packed, packed_name, name_field}
use Rattle.fields.specs.declared.Field.{Field}
use Rattle.fields.specs.Fields.{some_field, field_from, end_from, found, word_field}
use Rattle.fields.proofs.FieldEnds.{field_step, at_tab, past_end}
use Rattle.fields.proofs.Spelling.{name_none, not_digit, plain_first, number_other, number_large, number_done, name_blank, name_long, name_done, word_long, word_done}

-- A field of the line l that starts at s is read up to i, from the value v₀ on: what was read is v, in a base in which it has
-- at most k places more than there are bytes. It is a number of digits, or a name of bytes.
pub record Reading (base : ℕ) (all : List ℕ → Bool) (total : ℕ → List ℕ → ℕ) (v₀ k : ℕ) (l : List ℕ) (s v i : ℕ) : Type 0 where
  pub from : s ≤ i
  pub inside : i ≤ length l
  pub small : v < base ^ (k + (i - s))
  pub rest : all (field_from l i) ≡ all (field_from l s)
  pub sum : total v (field_from l i) ≡ total v₀ (field_from l s)
  pub end : end_from l i ≡ end_from l s

-- one more place
more_below : (b v w i : ℕ) → v < b ^ i → w < b → v * b + w < b ^ (i + 1)
more_below b v w i h k =
    let p : (v + 1) * b ≤ b ^ i * b = mul-le-mul_right b (omega arith) in
    let q : b ^ (i + 1) ≡ b ^ i * b = ap (λ n. b ^ n) (add-one i) ∙ pow-suc b i in
    omega arith

-- and at most n places
within : (b v w i n : ℕ) → v < b ^ i → w < b → i < n → v * b + w < b ^ n
within b v w i n h k l =
    let p : b ^ (i + 1) ≤ b ^ n = pow-le-pow_right (omega arith) (omega arith) in
    omega (arith, more_below b v w i h k)

module _ (base : ℕ) (one : ℕ → Bool) (all : List ℕ → Bool) (total : ℕ → List ℕ → ℕ) (worth : ℕ → ℕ) (v₀ k : ℕ)
    (All-cons : (b : ℕ) (bs : List ℕ) → all (b ∷ bs) ≡ both (one b) (all bs))
    (total-cons : (v b : ℕ) (bs : List ℕ) → total v (b ∷ bs) ≡ total (v * base + worth b) bs) where
  reading_start : (l : List ℕ) (s : ℕ) → s ≤ length l → v₀ < base ^ k → Reading base all total v₀ k l s v₀ s
  reading_start l s h b = record {
    from = omega arith;
    inside = h;
    small = let e : k + (s - s) ≡ k = omega arith in rw e b;
    rest = refl;
    sum = refl;
    end = refl;
  }

  reading_turn : (l : List ℕ) (s v i w : ℕ) → Reading base all total v₀ k l s v i → i < length l → (get_or l i 0 ≡ 9 → ⊥) → one (get_or l i 0) ≡ true → w ≡ worth (get_or l i 0) → w < base
      → Reading base all total v₀ k l s (v * base + w) (i + 1)
  reading_turn l s v i w r h n y e b = record {
    from = omega (arith, r.from);
    inside = omega arith;
    small = let q : k + (i + 1 - s) ≡ k + (i - s) + 1 = omega (arith, r.from) in rw q (more_below base v w (k + (i - s)) r.small b);
    rest = sym (ap all (field_step l i h n) ∙ All-cons _ _ ∙ both_yes _ y) ∙ r.rest;
    sum = ap (λ x. total (v * base + x) (field_from l (i + 1))) e ∙ sym (ap (total v) (field_step l i h n) ∙ total-cons v _ _) ∙ r.sum;
    end = omega (arith, ap length (field_step l i h n), r.end);
  }

  -- at a byte that does not belong into the field
  reading_stop : (l : List ℕ) (s v i : ℕ) → Reading base all total v₀ k l s v i → i < length l → (get_or l i 0 ≡ 9 → ⊥) → one (get_or l i 0) ≡ false → all (field_from l s) ≡ false
  reading_stop l s v i r h n y = sym r.rest ∙ ap all (field_step l i h n) ∙ All-cons _ _ ∙ both_no _ y

-- where the field ends
module _ {base : ℕ} {all : List ℕ → Bool} {total : ℕ → List ℕ → ℕ} {v₀ k : ℕ} (l : List ℕ) (s v i : ℕ) (r : Reading base all total v₀ k l s v i) where
  pub reading_inside : i < length l → (get_or l i 0 ≡ 9 → ⊥) → i - s < length (field_from l s)
  reading_inside h n = omega (arith, ap length (field_step l i h n), r.end, r.from)

  module _ (n : field_from l i ≡ []) where
    pub reading_end : i ≡ end_from l s
    reading_end = omega (arith, ap length n, r.end)

    pub reading_length : length (field_from l s) ≡ i - s
    reading_length = omega (arith, ap length n, r.end)

    reading_is : ((v : ℕ) → total v [] ≡ v) → v ≡ total v₀ (field_from l s)
    reading_is nil = sym (ap (total v) n ∙ nil v) ∙ r.sum

    reading_good : all [] ≡ true → all (field_from l s) ≡ true
    reading_good nil = sym r.rest ∙ ap all n ∙ nil

-- numbers
abbrev pub Decimal : List ℕ → ℕ → ℕ → ℕ → Type 0
Decimal = Reading 10 digits decimal_from 0 0

digit_turn : (l : List ℕ) (s v i : ℕ) → Decimal l s v i → i < length l → 48 ≤ get_or l i 0 → get_or l i 0 ≤ 57 → Decimal l s (v * 10 + (get_or l i 0 - 48)) (i + 1)
unfolding digits decimal_from
digit_turn l s v i r h a b =
    reading_turn 10 digit digits decimal_from (λ b. b - 48) 0 0 (λ b bs. refl) (λ v b bs. refl) l s v i _ r h (λ z. omega arith) (both_intro _ _ (le-leb 48 (get_or l i 0) a) (le-leb (get_or l i 0) 57 b)) refl (omega arith)

module _ (l : List ℕ) (s : ℕ) where
  -- the first digit
  pub decimal_start : (w : ℕ) → s < length l → 48 < get_or l s 0 → get_or l s 0 ≤ 57 → w ≡ get_or l s 0 - 48 → Decimal l s w (s + 1)
  unfolding digits decimal_from
  decimal_start w h a b e =
      let z = reading_start 10 digit digits decimal_from (λ b. b - 48) 0 0 (λ b bs. refl) (λ v b bs. refl) l s (omega arith) (omega arith) in
      let q : w ≡ 0 * 10 + (get_or l s 0 - 48) = omega arith in
      rw q (digit_turn l s 0 s z h (omega arith) b)

  pub decimal_plain : s < length l → 48 < get_or l s 0 → plain (field_from l s) ≡ true
  decimal_plain h a =
      ap plain (field_step l s h (λ z. omega arith)) ∙ plain_first (get_or l s 0) (field_from l (s + 1)) (λ z. omega arith)

  -- one more byte
  module _ (v i : ℕ) (r : Decimal l s v i) (h : i < length l) where
    pub decimal_turn : 48 ≤ get_or l i 0 → get_or l i 0 ≤ 57 → (w : ℕ) → w ≡ get_or l i 0 - 48 → Decimal l s (v * 10 + w) (i + 1)
    decimal_turn a b w p = rw p (digit_turn l s v i r h a b)

    pub decimal_other : IsOutOfRange 48 57 (get_or l i 0) → (get_or l i 0 ≡ 9 → ⊥) → None ≡ found (number_field (field_from l s)) (end_from l s)
    unfolding digits decimal_from
    decimal_other o n =
        let d = not_digit (get_or l i 0) (λ b. ⊎_elim (λ h. omega arith) (λ h. h) o) in
        number_other (field_from l s) (end_from l s) (reading_stop 10 digit digits decimal_from (λ b. b - 48) 0 0 (λ b bs. refl) (λ v b bs. refl) l s v i r h n d)

    pub decimal_large : 48 ≤ get_or l i 0 → 429496729 < v → None ≡ found (number_field (field_from l s)) (end_from l s)
    decimal_large a m =
        number_large (field_from l s) (end_from l s) v (get_or l i 0) (field_from l (i + 1)) (sym (ap (decimal_from v) (field_step l i h (λ z. omega arith))) ∙ r.sum) m

  -- all are read
  module _ (v i : ℕ) (r : Decimal l s v i) where
    pub decimal_done : (f : Option Field) (e : ℕ) → plain (field_from l s) ≡ true → field_from l i ≡ [] → f ≡ found (spelt (leb v 4294967295) v) e → e ≡ i → f ≡ found (number_field (field_from l s)) (end_from l s)
    unfolding digits decimal_from
    decimal_done f e p n t q =
        number_done (field_from l s) f v e (end_from l s) p (reading_good l s v i r n refl) (reading_is l s v i r n (λ v. refl)) (q ∙ reading_end l s v i r n) t

-- each element is a byte
pub record Bytes (l : List ℕ) : Type 0 where
  pub byte : (i : ℕ) → get_or l i 0 < 256

-- bytes packed, at most eight with the places before them
module _ {all : List ℕ → Bool} {total : ℕ → List ℕ → ℕ} {v₀ k : ℕ} (l : List ℕ) (s v i : ℕ) (r : Reading 256 all total v₀ k l s v i) (h : k + (i - s) < 8) where
  packed_scaled : Fits w64 (v * 256)
  packed_scaled = record { fits = omega (arith, within 256 v 0 (k + (i - s)) 8 r.small (omega arith) h) }

  packed_fits : (w : ℕ) → Bytes l → w ≡ get_or l i 0 → Fits w64 (v * 256 + w)
  packed_fits w b e = record { fits = within 256 v w (k + (i - s)) 8 r.small (omega (arith, b.byte i)) h }

-- names
abbrev pub Letters : List ℕ → ℕ → ℕ → ℕ → Type 0
Letters = Reading 256 no_blank packed 0 0

packed_more : (v : ℕ) (f g : List ℕ) → packed v (f ++ g) ≡ packed (packed v f) g
unfolding packed
packed_more v [] g = refl
packed_more v (b ∷ f) g = packed_more (v * 256 + b) f g

pub letters_start : (l : List ℕ) (s : ℕ) → s < length l → Letters l s 0 s
unfolding no_blank packed
letters_start l s h = reading_start 256 (λ b. not (eqb b 32)) no_blank packed (λ b. b) 0 0 (λ b bs. refl) (λ v b bs. refl) l s (omega arith) (omega arith)

module _ (l : List ℕ) (s v i : ℕ) (r : Letters l s v i) where
  pub letters_turn : (w : ℕ) → i < length l → (get_or l i 0 ≡ 9 → ⊥) → (get_or l i 0 ≡ 32 → ⊥) → Bytes l → w ≡ get_or l i 0 → Letters l s (v * 256 + w) (i + 1)
  unfolding no_blank packed
  letters_turn w h n m b e =
      reading_turn 256 (λ b. not (eqb b 32)) no_blank packed (λ b. b) 0 0 (λ b bs. refl) (λ v b bs. refl) l s v i w r h n (not_of _ (ne_eqb (get_or l i 0) 32 m)) e (omega (arith, b.byte i))

  pub letters_blank : i < length l → get_or l i 0 ≡ 32 → None ≡ found (name_field (field_from l s)) (end_from l s)
  unfolding no_blank packed
  letters_blank h e =
      name_blank (field_from l s) (end_from l s) (reading_stop 256 (λ b. not (eqb b 32)) no_blank packed (λ b. b) 0 0 (λ b bs. refl) (λ v b bs. refl) l s v i r h (λ z. omega arith) (ap not (eq-eqb (get_or l i 0) 32 e)))

  pub letters_long : i < length l → (get_or l i 0 ≡ 9 → ⊥) → 8 ≤ i - s → None ≡ found (name_field (field_from l s)) (end_from l s)
  letters_long h n b = name_long (field_from l s) (end_from l s) (omega (arith, reading_inside l s v i r h n))

  pub letters_scaled : i - s < 8 → Fits w64 (v * 256)
  letters_scaled h = packed_scaled l s v i r (omega arith)

  pub letters_fits : (w : ℕ) → i - s < 8 → Bytes l → w ≡ get_or l i 0 → Fits w64 (v * 256 + w)
  letters_fits w h b e = packed_fits l s v i r (omega arith) w b e

  pub letters_small : v < 256 ^ (i - s)
  letters_small = let e : 0 + (i - s) ≡ i - s = omega arith in rw e at r.small

  pub letters_done : (f : Option Field) (e : ℕ) → i - s ≤ 8 → field_from l i ≡ [] → f ≡ found (spelt (leb 1 (e - s)) (packed v (replicate (8 - (e - s)) 32))) e → e ≡ i
      → f ≡ found (name_field (field_from l s)) (end_from l s)
  unfolding no_blank packed packed_name
  letters_done f e h n t q =
      let p = reading_is l s v i r n (λ v. refl) in
      let m = reading_length l s v i r n in
      name_done (field_from l s) f _ (i - s) i (end_from l s) (reading_good l s v i r n refl) m h (rw (p, ← m) (sym (packed_more 0 (field_from l s) (replicate (8 - length (field_from l s)) 32)))) (reading_end l s v i r n) (rw q at t)

-- a call's name, of any bytes
unfoldable pub any_bytes : List ℕ → Bool
any_bytes [] = true
any_bytes (b ∷ bs) = both true (any_bytes bs)

abbrev pub Word : List ℕ → ℕ → ℕ → ℕ → Type 0
Word = Reading 256 any_bytes packed 1 1

pub word_start : (l : List ℕ) → Word l 0 1 0
unfolding any_bytes packed
word_start l = reading_start 256 (λ b. true) any_bytes packed (λ b. b) 1 1 (λ b bs. refl) (λ v b bs. refl) l 0 (omega arith) (omega arith)

module _ (l : List ℕ) (v i : ℕ) (r : Word l 0 v i) where
  pub word_turn : (w : ℕ) → i < length l → (get_or l i 0 ≡ 9 → ⊥) → Bytes l → w ≡ get_or l i 0 → Word l 0 (v * 256 + w) (i + 1)
  unfolding any_bytes packed
  word_turn w h n b e =
      reading_turn 256 (λ b. true) any_bytes packed (λ b. b) 1 1 (λ b bs. refl) (λ v b bs. refl) l 0 v i w r h n refl e (omega (arith, b.byte i))

  pub word_scaled : i < 7 → Fits w64 (v * 256)
  word_scaled h = packed_scaled l 0 v i r (omega arith)

  pub word_fits : (w : ℕ) → i < 7 → Bytes l → w ≡ get_or l i 0 → Fits w64 (v * 256 + w)
  word_fits w h b e = packed_fits l 0 v i r (omega arith) w b e

  pub word_over : i < length l → (get_or l i 0 ≡ 9 → ⊥) → 7 ≤ i → None ≡ found (word_field (field_from l 0)) (end_from l 0)
  word_over h n e = word_long (field_from l 0) (end_from l 0) (omega (arith, reading_inside l 0 v i r h n))

  pub word_whole : i ≤ 7 → field_from l i ≡ [] → some_field v i ≡ found (word_field (field_from l 0)) (end_from l 0)
  unfolding packed
  word_whole h n =
      word_done (field_from l 0) v i (end_from l 0) (omega (arith, reading_length l 0 v i r n)) (reading_is l 0 v i r n (λ v. refl)) (reading_end l 0 v i r n)

-- and the blanks after a name
pub record Padding (v n p k : ℕ) : Type 0 where
  pub most : k ≤ 8
  pub small : p < 256 ^ k
  pub sum : packed p (replicate (8 - k) 32) ≡ packed v (replicate (8 - n) 32)

pub padding_turn : (v n p k b : ℕ) → Padding v n p k → k < 8 → b ≡ 32 → Padding v n (p * 256 + b) (k + 1)
unfolding packed
padding_turn v n p k b s h q = rw q (record {
  most = omega arith;
  small = more_below 256 p 32 k s.small (omega arith);
  sum = let e : 8 - k ≡ suc (8 - (k + 1)) = omega arith in sym (ap (λ j. packed p (replicate j 32)) e) ∙ s.sum;
})

pub padding_scaled : (v n p k : ℕ) → Padding v n p k → k < 8 → Fits w64 (p * 256)
padding_scaled v n p k s h = record { fits = omega (arith, within 256 p 32 k 8 s.small (omega arith) h) }

pub padding_fits : (v n p k b : ℕ) → Padding v n p k → k < 8 → b ≡ 32 → Fits w64 (p * 256 + b)
padding_fits v n p k b s h q = rw q (record { fits = within 256 p 32 k 8 s.small (omega arith) h })

pub padding_end : (v n p k : ℕ) → Padding v n p k → 8 ≤ k → p ≡ packed v (replicate (8 - n) 32)
unfolding packed
padding_end v n p k s h = let e : 8 - k ≡ 0 = omega arith in sym (ap (λ j. packed p (replicate j 32)) e) ∙ s.sum

-- by the function that they prove
pub ruleset paddings = (padding_turn, padding_scaled, padding_fits, padding_end)

pub ruleset words = (word_scaled, word_fits, word_over, word_whole, at_tab, past_end, arith)

pub ruleset names = (name_none, letters_start, letters_scaled, letters_fits, letters_blank, letters_long, letters_small, letters_done, at_tab, past_end, arith)
