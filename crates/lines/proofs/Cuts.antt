-- The fields of a line, where the code cuts it. Assumes nothing.
use Prim.Native.Nat.{ℕ, suc, ◌+◌, ◌-◌, ◌≤◌, ◌<◌}
use mathlib.Core.Bool.{Bool, true, false}
use mathlib.Core.List.{List, [], ◌∷◌, ◌++◌}
use mathlib.Core.Path.{◌≡◌, refl, sym, ap, ◌∙◌}
use native.Mathlib.Omega.{arith}
use lib.Dec.{eqb}
use lib.ListN.{length, drop, length-drop, length-append}
use lib.Seq.{drop-drop, drop-length, drop-append_seam}
use Rattle.lists.specs.Choice.{choose}
use Rattle.lists.proofs.Choice.{yes!, no!, both_left, both_right, both_not}
use Rattle.lists.proofs.Parts.{drop_next}
use Rattle.model.specs.Lines.{fields, Spelt, is, bad, spelt, hex_digit, hex_digits, hex_field, hex, field_of, values, unread, and_then, read_fields}
use Rattle.fields.specs.Fields.{first_field, field_from, end_from}
use Rattle.fields.proofs.Spelling.{tab_no_digit}
use Rattle.lines.specs.Fields.{following}

-- the first field, and those that follow it
fields_first : (d : List ℕ) → fields d ≡ first_field d ∷ following (drop (length (first_field d)) d)
unfolding fields first_field following
fields_first [] = refl
fields_first (b ∷ d) = go (eqb b 9) refl (fields_first d)
  where
    go : (t : Bool) → eqb b 9 ≡ t → fields d ≡ first_field d ∷ following (drop (length (first_field d)) d)
        → fields (b ∷ d) ≡ first_field (b ∷ d) ∷ following (drop (length (first_field (b ∷ d))) (b ∷ d))
    go true y e = let q : first_field (b ∷ d) ≡ [] = yes! _ _ y in rw q (yes! _ _ y)
    go false n e = let q : first_field (b ∷ d) ≡ b ∷ first_field d = no! _ _ n in rw q (no! _ _ n ∙ rw e)

first_most : (d : List ℕ) → length (first_field d) ≤ length d
unfolding first_field
first_most [] = omega arith
first_most (b ∷ d) = go (eqb b 9) refl (first_most d)
  where
    go : (t : Bool) → eqb b 9 ≡ t → length (first_field d) ≤ length d → length (first_field (b ∷ d)) ≤ suc (length d)
    go true y h = let q : first_field (b ∷ d) ≡ [] = yes! _ _ y in rw q (omega arith)
    go false n h = let q : first_field (b ∷ d) ≡ b ∷ first_field d = no! _ _ n in rw q (omega arith)

pub fields_at : (l : List ℕ) (i : ℕ) → fields (drop i l) ≡ field_from l i ∷ following (drop (end_from l i) l)
fields_at l i = fields_first (drop i l) ∙ ap (λ d. field_from l i ∷ following d) (drop-drop (length (field_from l i)) i l)

pub end_inside : (l : List ℕ) (i : ℕ) → i ≤ length l → end_from l i ≤ length l
end_inside l i h = omega (arith, first_most (drop i l), length-drop i l)

pub following_at : (l : List ℕ) (i : ℕ) → i < length l → following (drop i l) ≡ fields (drop (i + 1) l)
unfolding following
following_at l i h = ap following (drop_next l i 0 h)

-- a last field is all that is left
fields_none : (l : List ℕ) → fields l ≡ [] → ⊥
fields_none l e = let c = fields_first l in let z : ◌≡◌ {A = ℕ} 0 1 = cc in omega arith

first_whole : (d : List ℕ) → following (drop (length (first_field d)) d) ≡ [] → first_field d ≡ d
unfolding first_field following
first_whole [] e = refl
first_whole (b ∷ d) e = go (eqb b 9) refl e (first_whole d)
  where
    go : (t : Bool) → eqb b 9 ≡ t → following (drop (length (first_field (b ∷ d))) (b ∷ d)) ≡ [] → (following (drop (length (first_field d)) d) ≡ [] → first_field d ≡ d)
        → first_field (b ∷ d) ≡ b ∷ d
    go true y e f = let q : first_field (b ∷ d) ≡ [] = yes! _ _ y in absurd (fields_none d (rw q at e))
    go false n e f = let q : first_field (b ∷ d) ≡ b ∷ first_field d = no! _ _ n in q ∙ ap (λ x. b ∷ x) (f (rw q at e))

-- data hold no tab
data_whole : (d : List ℕ) → hex_digits d ≡ true → first_field d ≡ d
unfolding first_field hex_digits
data_whole [] y = refl
data_whole (b ∷ d) y =
    no! _ _ (tab_no_digit b (both_left (hex_digit b) (hex_digits d) y)) ∙ ap (λ x. b ∷ x) (data_whole d (both_right (hex_digit b) (hex_digits d) y))

pub data_alone : (d : List ℕ) → hex_digits d ≡ true → fields d ≡ d ∷ []
unfolding following
data_alone d y = let w = data_whole d y in fields_first d ∙ rw (w, drop-length d)

-- so they may be read up to the line's end
then_unread : (s : Spelt) → and_then s unread ≡ unread
unfolding and_then
then_unread (is n) = refl
then_unread bad = refl

other_data : (d : List ℕ) (fs : List (List ℕ)) → following (drop (length (first_field d)) d) ≡ fs → hex_field d ≡ bad → read_fields (hex ∷ []) (first_field d ∷ fs) ≡ unread
unfolding read_fields field_of and_then
other_data d [] e n = rw (first_whole d e, n)
other_data d (f ∷ fs) e n = then_unread (hex_field (first_field d))

pub data_last : (d : List ℕ) → read_fields (hex ∷ []) (fields d) ≡ and_then (hex_field d) (values [])
unfolding read_fields field_of hex_field spelt and_then
data_last d = go (hex_digits d) refl
  where
    go : (b : Bool) → hex_digits d ≡ b → read_fields (hex ∷ []) (fields d) ≡ and_then (hex_field d) (values [])
    go true y = ap (read_fields (hex ∷ [])) (data_alone d y)
    go false n =
        let q : hex_field d ≡ bad = rw (both_not _ _ n) in
        ap (read_fields (hex ∷ [])) (fields_first d) ∙ other_data d _ refl q ∙ sym (ap (λ s. and_then s (values [])) q)

-- the last of some fields
last_of : List (List ℕ) → List ℕ
last_of [] = []
last_of (f ∷ []) = f
last_of (f ∷ g ∷ fs) = last_of (g ∷ fs)

-- it ends the line
record Ends (l : List ℕ) : Type 0 where
  front : List ℕ
  is : l ≡ front ++ last_of (fields l)

alone : (l f : List ℕ) → fields l ≡ f ∷ [] → f ≡ l
alone l f e =
    let p : f ∷ [] ≡ first_field l ∷ following (drop (length (first_field l)) l) = sym e ∙ fields_first l in
    let q : f ≡ first_field l = cc in
    q ∙ first_whole l cc

ends : (l : List ℕ) → Ends l
unfolding fields last_of choose
ends [] = record { front = []; is = refl }
ends (b ∷ l) = go (eqb b 9) refl (ends l) (fields l) refl
  where
    on : (f : List ℕ) (fs : List (List ℕ)) → fields (b ∷ l) ≡ f ∷ fs → (front : List ℕ) → b ∷ l ≡ front ++ last_of (f ∷ fs) → Ends (b ∷ l)
    on f fs e front q = record { front = front; is = q ∙ ap (λ g. front ++ last_of g) (sym e) }

    go : (t : Bool) → eqb b 9 ≡ t → Ends l → (fs : List (List ℕ)) → fields l ≡ fs → Ends (b ∷ l)
    go t y x [] e = absurd (fields_none l e)
    go true y x (f ∷ fs) e = on [] (f ∷ fs) (rw (y, e)) (b ∷ x.front) (ap (λ r. b ∷ r) (x.is ∙ ap (λ g. x.front ++ last_of g) e))
    go false n x (f ∷ []) e = on (b ∷ f) [] (rw (n, e)) [] (ap (λ r. b ∷ r) (sym (alone l f e)))
    go false n x (f ∷ g ∷ fs) e = on (b ∷ f) (g ∷ fs) (rw (n, e)) (b ∷ x.front) (ap (λ r. b ∷ r) (x.is ∙ ap (λ g. x.front ++ last_of g) e))

-- so a last field is found by its length
pub last_found : (l v w x y z : List ℕ) → fields l ≡ v ∷ w ∷ x ∷ y ∷ z ∷ [] → (length z ≤ length l) × (drop (length l - length z) l ≡ z)
unfolding last_of
last_found l v w x y z e =
    let t = ends l in
    let p : l ≡ t.front ++ z = t.is ∙ ap (λ g. t.front ++ last_of g) e in
    let n : length l ≡ length t.front + length z = ap length p ∙ length-append t.front z in
    let m : length l - length z ≡ length t.front = omega arith in
    (omega arith, ap (λ i. drop i l) m ∙ ap (drop (length t.front)) p ∙ drop-append_seam t.front z)
