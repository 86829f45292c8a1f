-- Where a field ends. Assumes nothing.
use Rattle.std.proofs.Common.{◌≡◌, ℕ, ◌+◌, ◌<◌, ◌≤◌, Bool, true, false, eqb, List, [], ◌∷◌, length, get_or, sym, refl, ap, ◌∙◌, arith, drop_of_length-le, leb, le-leb, eq-eqb, ne_eqb, eqb-true}
use borrow.Author.Tests.{eqb-false}
use Rattle.lists.proofs.Choice.{yes!, no! }
use Rattle.lists.proofs.Parts.{no_elements, drop_next}
use Rattle.fields.specs.Fields.{first_field, field_from, end_from}

pub field_step : (l : List ℕ) (i : ℕ) → i < length l → (get_or l i 0 ≡ 9 → ⊥) → field_from l i ≡ get_or l i 0 ∷ field_from l (i + 1)
unfolding first_field
field_step l i h n = ap first_field (drop_next l i 0 h) ∙ no! _ _ (ne_eqb (get_or l i 0) 9 n)

pub past_end : (l : List ℕ) (i : ℕ) → length l ≤ i → field_from l i ≡ []
unfolding first_field
past_end l i h = ap first_field (drop_of_length-le l {i = i} h)

pub at_tab : (l : List ℕ) (i : ℕ) → i < length l → get_or l i 0 ≡ 9 → field_from l i ≡ []
unfolding first_field
at_tab l i h e = ap first_field (drop_next l i 0 h) ∙ yes! _ _ (eq-eqb (get_or l i 0) 9 e)

-- as the code tests it
pub ends_past : (l : List ℕ) (i : ℕ) → length l ≤ i → leb (length l) i ≡ eqb (length (field_from l i)) 0
ends_past l i h = le-leb (length l) i h ∙ sym (eq-eqb (length (field_from l i)) 0 (ap length (past_end l i h)))

pub ends_inside : (l : List ℕ) (i : ℕ) → i < length l → eqb (get_or l i 0) 9 ≡ eqb (length (field_from l i)) 0
ends_inside l i h = go (eqb (get_or l i 0) 9) refl
  where
    go : (b : Bool) → eqb (get_or l i 0) 9 ≡ b → b ≡ eqb (length (field_from l i)) 0
    go true y = sym (eq-eqb (length (field_from l i)) 0 (ap length (at_tab l i h (eqb-true (get_or l i 0) 9 y))))
    go false n = sym (ne_eqb (length (field_from l i)) 0 (λ z. omega (arith, ap length (field_step l i h (eqb-false (get_or l i 0) 9 n)))))

-- a field of one byte
pub one_byte : (l : List ℕ) (i : ℕ) → i < length l → (get_or l i 0 ≡ 9 → ⊥) → eqb (length (field_from l (i + 1))) 0 ≡ true → (field_from l i ≡ get_or l i 0 ∷ []) × (i + 1 ≡ end_from l i)
one_byte l i h n y =
    let z = eqb-true (length (field_from l (i + 1))) 0 y in
    let p : field_from l i ≡ get_or l i 0 ∷ [] = field_step l i h n ∙ ap (λ f. get_or l i 0 ∷ f) (no_elements _ z) in
    (p, omega (arith, ap length p))
