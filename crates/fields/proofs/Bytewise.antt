-- Fields of one byte, and those that are none. Assumes nothing.
use Rattle.std.proofs.Common.{Option, None, ◌≡◌, ℕ, ◌+◌, ◌<◌, Bool, true, false, eqb, nat_lt, List, [], ◌∷◌, length, get_or, sym, refl, ap, ◌∙◌, arith, eqb-true}
use borrow.Author.Tests.{eqb-false, ltb-true, ltb-false}
use Rattle.std.proofs.lemmas.List.{get_or_read_under}
use Rattle.lists.proofs.Choice.{both_no}
use Rattle.model.specs.Names.{digit}
use Rattle.model.specs.Lines.{spelt, digits, number_field, right_field}
use Rattle.fields.specs.declared.Field.{Field}
use Rattle.fields.specs.Fields.{field_from, end_from, found}
use Rattle.fields.proofs.FieldEnds.{field_step, at_tab, past_end, one_byte}
use Rattle.fields.proofs.Spelling.{not_digit, number_none, number_other, number_zero, number_zeros, right_none, right_long, right_read, right_write, right_other}

-- the byte b at s, as `get` finds it
module _ (l : List ℕ) (s b : ℕ) (g : b ≡ get_or l s b) (i : true ≡ nat_lt s (length l)) where
  inside : s < length l
  inside = ltb-true s (length l) (sym i)

  q : b ≡ get_or l s 0
  q = get_or_read_under l s (length l) b 0 g inside refl

  abbrev ends_next : Bool
  ends_next = eqb (length (field_from l (s + 1))) 0

  -- a field that starts with a byte other than a digit
  number_bad : digit b ≡ false → None ≡ found (number_field (field_from l s)) (end_from l s)
  unfolding digits
  number_bad n = go (eqb (get_or l s 0) 9) refl
    where
      go : (t : Bool) → eqb (get_or l s 0) 9 ≡ t → None ≡ found (number_field (field_from l s)) (end_from l s)
      go true y = number_none _ _ (at_tab l s inside (eqb-true (get_or l s 0) 9 y))
      go false m = number_other _ _ (ap digits (field_step l s inside (eqb-false (get_or l s 0) 9 m)) ∙ both_no _ (ap digit (sym q) ∙ n))

  pub number_low : b < 48 → None ≡ found (number_field (field_from l s)) (end_from l s)
  number_low a = number_bad (not_digit b (λ h. omega arith))

  pub number_high : 57 < b → None ≡ found (number_field (field_from l s)) (end_from l s)
  number_high a = number_bad (not_digit b (λ h. a))

  -- the field ends after its first byte, or it doesn't
  ended : ends_next ≡ true → (b ≡ 9 → ⊥) → (field_from l s ≡ b ∷ []) × (s + 1 ≡ end_from l s)
  ended y n = let o = one_byte l s inside (λ z. n (q ∙ z)) y in (o.0 ∙ ap (λ x. x ∷ []) (sym q), o.1)

  longer : ends_next ≡ false → length (field_from l (s + 1)) ≡ 0 → ⊥
  longer n = eqb-false (length (field_from l (s + 1))) 0 n

  next : (b ≡ 9 → ⊥) → field_from l s ≡ b ∷ field_from l (s + 1)
  next n = field_step l s inside (λ z. n (q ∙ z)) ∙ ap (λ x. x ∷ field_from l (s + 1)) (sym q)

  pub alone_zero : (r : Option Field) → r ≡ found (spelt ends_next 0) (s + 1) → b ≡ 48 → r ≡ found (number_field (field_from l s)) (end_from l s)
  unfolding found spelt
  alone_zero r t e = t ∙ go ends_next refl
    where
      go : (x : Bool) → ends_next ≡ x → found (spelt x 0) (s + 1) ≡ found (number_field (field_from l s)) (end_from l s)
      go true y = let o = ended y (λ z. omega arith) in number_zero _ _ _ (o.0 ∙ ap (λ x. x ∷ []) e) o.1
      go false n = number_zeros _ _ b (field_from l (s + 1)) (next (λ z. omega arith)) e (longer n)

  pub alone_read : (r : Option Field) → r ≡ found (spelt ends_next 0) (s + 1) → b ≡ 82 → r ≡ found (right_field (field_from l s)) (end_from l s)
  unfolding found spelt
  alone_read r t e = t ∙ go ends_next refl
    where
      go : (x : Bool) → ends_next ≡ x → found (spelt x 0) (s + 1) ≡ found (right_field (field_from l s)) (end_from l s)
      go true y = let o = ended y (λ z. omega arith) in right_read _ _ _ _ o.0 o.1 e
      go false n = right_long _ _ _ (field_from l (s + 1)) (next (λ z. omega arith)) (longer n)

  pub alone_write : (r : Option Field) → r ≡ found (spelt ends_next 1) (s + 1) → b ≡ 87 → r ≡ found (right_field (field_from l s)) (end_from l s)
  unfolding found spelt
  alone_write r t e = t ∙ go ends_next refl
    where
      go : (x : Bool) → ends_next ≡ x → found (spelt x 1) (s + 1) ≡ found (right_field (field_from l s)) (end_from l s)
      go true y = let o = ended y (λ z. omega arith) in right_write _ _ _ _ o.0 o.1 (λ z. omega arith) e
      go false n = right_long _ _ _ (field_from l (s + 1)) (next (λ z. omega arith)) (longer n)

  pub right_bad : (b ≡ 82 → ⊥) → (b ≡ 87 → ⊥) → None ≡ found (right_field (field_from l s)) (end_from l s)
  right_bad n m = at_first (eqb b 9) refl
    where
      go : (b ≡ 9 → ⊥) → (x : Bool) → ends_next ≡ x → None ≡ found (right_field (field_from l s)) (end_from l s)
      go z true y = right_other _ _ _ (ended y z).0 n m
      go z false y = right_long _ _ _ (field_from l (s + 1)) (next z) (longer y)

      at_first : (t : Bool) → eqb b 9 ≡ t → None ≡ found (right_field (field_from l s)) (end_from l s)
      at_first true z = right_none _ _ (at_tab l s inside (sym q ∙ eqb-true b 9 z))
      at_first false z = go (eqb-false b 9 z) ends_next refl

-- where there is none
outside : (l : List ℕ) (s : ℕ) → false ≡ nat_lt s (length l) → field_from l s ≡ []
outside l s o = past_end l s (ltb-false s (length l) (sym o))

pub no_number : (l : List ℕ) (s : ℕ) → false ≡ nat_lt s (length l) → None ≡ found (number_field (field_from l s)) (end_from l s)
no_number l s o = number_none _ _ (outside l s o)

pub no_right : (l : List ℕ) (s : ℕ) → false ≡ nat_lt s (length l) → None ≡ found (right_field (field_from l s)) (end_from l s)
no_right l s o = right_none _ _ (outside l s o)
