-- What a field spells, from what the code has tested of it. Assumes nothing.
use Rattle.std.proofs.Common.{Option, None, ◌≡◌, ℕ, ◌+◌, ◌-◌, ◌*◌, ◌/◌, ◌%◌, ◌^◌, ◌<◌, ◌≤◌, Bool, true, false, not, eqb, leb, ◌⊎◌, List, [], ◌∷◌, length, sym, refl, ap, ◌∙◌, inl, inr, ⊎_elim, mul-le-mul_left, pow-suc, arith, eq-eqb, ne_eqb, le-leb, leb-true}
use native.Mathlib.Nat.{pow-le-pow_right}
use Rattle.std.proofs.lemmas.Option.{none-some, same_Some}
use borrow.Author.Tests.{lt-leb}
use Rattle.lists.specs.Choice.{choose, both}
use Rattle.lists.proofs.Choice.{both_yes, both_no, both_not, both_left, both_right, both_intro, both_comm, either_left, either_right, either_none, either_to, not_so, yes!, no! }
use Rattle.fields.specs.declared.Field.{Field}
use Rattle.fields.specs.Fields.{some_field, found, word_field}
use Rattle.model.specs.Names.{digit}
use Rattle.model.specs.Lines.{Spelt, is, bad, spelt, plain, digits, decimal_from, number_field, no_blank, packed, packed_name, name_field, right_field, hex_digit, hex_value, hex_digits, hex_field}

-- a field that passes its test, and one that doesn't
pub is_field : (t : Bool) (n v a e : ℕ) → t ≡ true → v ≡ n → a ≡ e → some_field v a ≡ found (spelt t n) e
unfolding found spelt
is_field t n v a e y p q = rw (y, p, q)

pub bad_field : (t : Bool) (n e : ℕ) → t ≡ false → None ≡ found (spelt t n) e
unfolding found spelt
bad_field t n e y = rw y

-- what the code's answer tells
pub as_is : (s : Spelt) (e v a : ℕ) → found s e ≡ some_field v a → (s ≡ is v) × (e ≡ a)
unfolding found
as_is (is n) e v a q = let p = same_Some _ _ q in (ap (λ (f : Field). is f.value) p, ap (λ (f : Field). f.end) p)
as_is bad e v a q = absurd (none-some _ q)

pub as_bad : (s : Spelt) (e : ℕ) → found s e ≡ None → s ≡ bad
unfolding found
as_bad (is n) e q = absurd (none-some _ (sym q))
as_bad bad e q = refl

pub spelt_is : (t : Bool) (m n : ℕ) → spelt t m ≡ is n → (t ≡ true) × (m ≡ n)
unfolding spelt
spelt_is true m n e = (refl, cc)
spelt_is false m n e = let z : ◌≡◌ {A = ℕ} 0 1 = cc in absurd (omega arith)

-- a number: its digits, none of which is a zero before others
between : (a b c : ℕ) → (a ≤ b → c < b) → both (leb a b) (leb b c) ≡ false
between a b c f = not_so _ (λ e. omega (arith, f (leb-true a b (both_left _ _ e)), leb-true b c (both_right (leb a b) _ e)))

pub not_digit : (b : ℕ) → (48 ≤ b → 57 < b) → digit b ≡ false
not_digit b f = between 48 b 57 f

pub number_none : (f : List ℕ) (e : ℕ) → f ≡ [] → None ≡ found (number_field f) e
unfolding number_field plain
number_none f e p = bad_field _ _ e (both_no _ (both_no _ (ap plain p)))

pub number_other : (f : List ℕ) (e : ℕ) → digits f ≡ false → None ≡ found (number_field f) e
unfolding number_field
number_other f e n = bad_field _ _ e (both_no _ (both_not (plain f) _ n))

pub number_zeros : (f : List ℕ) (e b : ℕ) (g : List ℕ) → f ≡ b ∷ g → b ≡ 48 → (length g ≡ 0 → ⊥) → None ≡ found (number_field f) e
unfolding number_field plain
number_zeros f e b [] p z n = absurd (n refl)
number_zeros f e b (x ∷ g) p z n = bad_field _ _ e (both_no _ (both_no _ (ap plain p ∙ ap not (eq-eqb b 48 z))))

pub number_zero : (f : List ℕ) (a e : ℕ) → f ≡ 48 ∷ [] → a ≡ e → some_field 0 a ≡ found (number_field f) e
unfolding number_field found spelt plain digits both decimal_from
number_zero f a e p q = rw (p, q)

pub plain_first : (b : ℕ) (f : List ℕ) → (b ≡ 48 → ⊥) → plain (b ∷ f) ≡ true
unfolding plain
plain_first b [] n = refl
plain_first b (x ∷ f) n = ap not (ne_eqb b 48 n)

-- n digits after v make at least v times 10 ^ n
grows : (v : ℕ) (f : List ℕ) → v * 10 ^ length f ≤ decimal_from v f
unfolding decimal_from
grows v [] = omega arith
grows v (b ∷ f) = omega (arith, grows (v * 10 + (b - 48)) f, ap (λ x. v * x) (pow-suc 10 (length f)))

-- so one more digit makes a large value too large
pub number_large : (f : List ℕ) (e v b : ℕ) (g : List ℕ) → decimal_from v (b ∷ g) ≡ decimal_from 0 f → 429496729 < v → None ≡ found (number_field f) e
unfolding number_field
number_large f e v b g s h =
    let z : 0 ≤ length g = omega arith in
    let p : 10 ^ 0 ≤ 10 ^ length g = pow-le-pow_right (omega arith) z in
    let q : v * 10 * 1 ≤ v * 10 * 10 ^ length g = mul-le-mul_left (v * 10) p in
    bad_field _ _ e (both_not _ _ (lt-leb (decimal_from 0 f) 4294967295 (omega (arith, grows v (b ∷ g), ap (λ x. v * x) (pow-suc 10 (length g)), s))))

-- all its digits are read
pub number_done : (f : List ℕ) (r : Option Field) (v a e : ℕ) → plain f ≡ true → digits f ≡ true → v ≡ decimal_from 0 f → a ≡ e → r ≡ found (spelt (leb v 4294967295) v) a → r ≡ found (number_field f) e
unfolding number_field
number_done f r v a e y z p q t =
    t ∙ rw (p, q) (ap (λ b. found (spelt b (decimal_from 0 f)) e) (sym (both_yes _ (both_intro _ _ y z))))

-- a name
pub name_none : (f : List ℕ) (e : ℕ) → f ≡ [] → None ≡ found (name_field f) e
unfolding name_field
name_none f e p = bad_field _ _ e (both_no _ (both_no _ (lt-leb 1 (length f) (omega (arith, ap length p)))))

pub name_blank : (f : List ℕ) (e : ℕ) → no_blank f ≡ false → None ≡ found (name_field f) e
unfolding name_field
name_blank f e n = bad_field _ _ e (both_not _ _ n)

pub name_long : (f : List ℕ) (e : ℕ) → 8 < length f → None ≡ found (name_field f) e
unfolding name_field
name_long f e h = bad_field _ _ e (both_no _ (both_not _ _ (lt-leb (length f) 8 h)))

pub name_done : (f : List ℕ) (r : Option Field) (m n a e : ℕ) → no_blank f ≡ true → length f ≡ n → n ≤ 8 → m ≡ packed_name f → a ≡ e → r ≡ found (spelt (leb 1 n) m) a → r ≡ found (name_field f) e
unfolding name_field
name_done f r m n a e y l h p q t =
    t ∙ rw (p, q) (ap (λ b. found (spelt b (packed_name f)) e) (sym (both_comm _ _ ∙ both_yes _ y ∙ both_comm _ _ ∙ both_yes _ (le-leb (length f) 8 (omega arith)) ∙ ap (leb 1) l)))

-- a call's name
pub word_long : (f : List ℕ) (e : ℕ) → 7 < length f → None ≡ found (word_field f) e
unfolding word_field
word_long f e h = bad_field _ _ e (lt-leb (length f) 7 h)

pub word_done : (f : List ℕ) (v a e : ℕ) → length f ≤ 7 → v ≡ packed 1 f → a ≡ e → some_field v a ≡ found (word_field f) e
unfolding word_field
word_done f v a e h p q = is_field _ _ v a e (le-leb (length f) 7 h) p q

-- rights
pub right_none : (f : List ℕ) (e : ℕ) → f ≡ [] → None ≡ found (right_field f) e
unfolding right_field found
right_none f e p = rw p

pub right_long : (f : List ℕ) (e b : ℕ) (g : List ℕ) → f ≡ b ∷ g → (length g ≡ 0 → ⊥) → None ≡ found (right_field f) e
unfolding right_field found
right_long f e b [] p n = absurd (n refl)
right_long f e b (x ∷ g) p n = rw p

right_one : (f : List ℕ) (b : ℕ) → f ≡ b ∷ [] → right_field f ≡ choose (eqb b 82) (is 0) (choose (eqb b 87) (is 1) bad)
unfolding right_field
right_one f b p = rw p

module _ (f : List ℕ) (b a e : ℕ) (p : f ≡ b ∷ []) (q : a ≡ e) where
  pub right_read : b ≡ 82 → some_field 0 a ≡ found (right_field f) e
  unfolding found
  right_read y = rw q (ap (λ s. found s e) (sym (right_one f b p ∙ yes! _ _ (eq-eqb b 82 y))))

  pub right_write : (b ≡ 82 → ⊥) → b ≡ 87 → some_field 1 a ≡ found (right_field f) e
  unfolding found
  right_write n y =
      rw q (ap (λ s. found s e) (sym (right_one f b p ∙ no! _ _ (ne_eqb b 82 n) ∙ yes! _ _ (eq-eqb b 87 y))))

pub right_other : (f : List ℕ) (b e : ℕ) → f ≡ b ∷ [] → (b ≡ 82 → ⊥) → (b ≡ 87 → ⊥) → None ≡ found (right_field f) e
unfolding found
right_other f b e p n m =
    ap (λ s. found s e) (sym (right_one f b p ∙ no! _ _ (ne_eqb b 82 n) ∙ no! _ _ (ne_eqb b 87 m)))

-- pairs of hexadecimal digits
pub hex_odd : (f : List ℕ) (e : ℕ) → length f % 2 ≡ 1 → None ≡ found (hex_field f) e
unfolding hex_field
hex_odd f e o = bad_field _ _ e (both_no _ (both_no _ (ne_eqb (length f % 2) 0 (λ z. omega arith))))

pub hex_long : (f : List ℕ) (e : ℕ) → 514 < length f → None ≡ found (hex_field f) e
unfolding hex_field
hex_long f e h = bad_field _ _ e (both_no _ (both_not _ _ (lt-leb (length f) 514 h)))

module _ (f : List ℕ) (e : ℕ) (b : Bool) (t : b ≡ hex_digits f) where
  pub hex_other : b ≡ false → None ≡ found (hex_field f) e
  unfolding hex_field
  hex_other n = bad_field _ _ e (both_not _ _ (sym t ∙ n))

  pub hex_pairs : (length f % 2 ≡ 1 → ⊥) → length f ≤ 514 → b ≡ true → some_field (length f / 2) e ≡ found (hex_field f) e
  unfolding hex_field
  hex_pairs n h y =
      is_field _ _ _ e e (both_intro _ _ (both_intro _ _ (eq-eqb (length f % 2) 0 (omega arith)) (le-leb (length f) 514 h)) (sym t ∙ y)) refl refl

-- one of them
pub hex_decimal : (b : ℕ) → 48 ≤ b → b ≤ 57 → true ≡ hex_digit b
unfolding hex_digit
hex_decimal b l h = sym (either_left (digit b) _ (both_intro _ _ (le-leb 48 b l) (le-leb b 57 h)))

pub hex_letter : (b : ℕ) → 65 ≤ b → b ≤ 70 → true ≡ hex_digit b
unfolding hex_digit
hex_letter b l h = sym (either_right (digit b) _ (both_intro _ _ (le-leb 65 b l) (le-leb b 70 h)))

pub hex_none : (b : ℕ) → (48 ≤ b → 57 < b) → (65 ≤ b → 70 < b) → false ≡ hex_digit b
unfolding hex_digit
hex_none b f g = sym (either_none (digit b) _ (between 48 b 57 f) (between 65 b 70 g))

-- and their values
hex_cases : (b : ℕ) → hex_digit b ≡ true → ((48 ≤ b) × (b ≤ 57)) ⊎ ((65 ≤ b) × (b ≤ 70))
unfolding hex_digit
hex_cases b e = go (either_to (digit b) (both (leb 65 b) (leb b 70)) e)
  where
    go : (digit b ≡ true) ⊎ (both (leb 65 b) (leb b 70) ≡ true) → ((48 ≤ b) × (b ≤ 57)) ⊎ ((65 ≤ b) × (b ≤ 70))
    go (inl y) = inl (leb-true 48 b (both_left _ _ y), leb-true b 57 (both_right (leb 48 b) _ y))
    go (inr y) = inr (leb-true 65 b (both_left _ _ y), leb-true b 70 (both_right (leb 65 b) _ y))

-- the lower four bits, and 9 more for a letter
pub value_is : (b : ℕ) → hex_digit b ≡ true → b % 16 + b / 64 * 9 ≡ hex_value b
unfolding hex_value
value_is b e = go (hex_cases b e)
  where
    go : ((48 ≤ b) × (b ≤ 57)) ⊎ ((65 ≤ b) × (b ≤ 70)) → b % 16 + b / 64 * 9 ≡ choose (digit b) (b - 48) (b - 55)
    go (inl h) =
        let q : b % 16 + b / 64 * 9 ≡ b - 48 = omega arith in
        q ∙ sym (yes! _ _ (both_intro _ _ (le-leb 48 b h.0) (le-leb b 57 h.1)))
    go (inr h) = let q : b % 16 + b / 64 * 9 ≡ b - 55 = omega arith in q ∙ sym (no! _ _ (between 48 b 57 (λ _. omega arith)))

pub tab_no_digit : (b : ℕ) → hex_digit b ≡ true → eqb b 9 ≡ false
tab_no_digit b e = ne_eqb b 9 (λ z. ⊎_elim (λ h. omega arith) (λ h. omega arith) (hex_cases b e))

pub value_small : (b : ℕ) → hex_digit b ≡ true → b % 16 + b / 64 * 9 ≤ 15
value_small b e = ⊎_elim (λ h. omega arith) (λ h. omega arith) (hex_cases b e)
