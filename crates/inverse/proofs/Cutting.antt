-- "fields parted by tabs": texts joined by tabs are cut into the same texts, and a line's fields, joined, are the line. Assumes
-- nothing.
use Prim.Native.Nat.{ℕ}
use mathlib.Core.Bool.{Bool, true, false, not}
use mathlib.Core.List.{List, [], ◌∷◌, ◌++◌, append-nil}
use mathlib.Core.Path.{◌≡◌, refl, sym, ap, ap₂, ◌∙◌}
use native.Mathlib.Omega.{arith}
use lib.Dec.{eqb}
use borrow.Author.Tests.{eqb-true}
use Rattle.lists.specs.Choice.{either}
use Rattle.lists.proofs.Choice.{both_left, both_right, both_intro, either_none, either_not_left, either_not_right, not_to, not_of, yes!, no! }
use Rattle.model.specs.Lines.{fields}
use Rattle.model.specs.Rewritten.{AllBytes, NoNewline}
use Rattle.model.specs.Written.{tabbed, one_field}
use Rattle.lines.proofs.Cuts.{fields_at}
use Rattle.inverse.proofs.Throughout.{IsByte, NotNewline, all_none, all_cons, all_head, all_tail, all_append}

-- each text of a list is such
pub data Each (P : List ℕ → Type 0) : List (List ℕ) → Type 0 where
  none : Each P []
  and : {f : List ℕ} {fs : List (List ℕ)} → P f → Each P fs → Each P (f ∷ fs)

-- a text that can be a field: no tab and no newline
abbrev pub One : List ℕ → Type 0
One f = one_field f ≡ true

module _ (b : ℕ) (f : List ℕ) where
  one_neither : One (b ∷ f) → either (eqb b 9) (eqb b 10) ≡ false
  unfolding one_field
  one_neither y = not_to _ (both_left (not (either (eqb b 9) (eqb b 10))) (one_field f) y)

  one_tail : One (b ∷ f) → One f
  unfolding one_field
  one_tail y = both_right (not (either (eqb b 9) (eqb b 10))) (one_field f) y

  pub one_cons : eqb b 9 ≡ false → eqb b 10 ≡ false → One f → One (b ∷ f)
  unfolding one_field
  one_cons t n y = both_intro _ _ (not_of _ (either_none _ _ t n)) y

  one_no_tab : One (b ∷ f) → eqb b 9 ≡ false
  one_no_tab y = either_not_left _ _ (one_neither y)

  one_no_newline : One (b ∷ f) → eqb b 10 ≡ false
  one_no_newline y = either_not_right (eqb b 9) _ (one_neither y)

-- joined, then cut
fields_last : (w : List ℕ) → One w → fields w ≡ w ∷ []
unfolding fields
fields_last [] y = refl
fields_last (b ∷ w) y = no! _ _ (one_no_tab b w y) ∙ rw (fields_last w (one_tail b w y))

fields_cut : (w r : List ℕ) → One w → fields (w ++ (9 ∷ r)) ≡ w ∷ fields r
unfolding fields
fields_cut [] r y = yes! _ _ refl
fields_cut (b ∷ w) r y = no! _ _ (one_no_tab b w y) ∙ rw (fields_cut w r (one_tail b w y))

pub joined_cut : (w : List ℕ) (ts : List (List ℕ)) → One w → Each One ts → fields (w ++ tabbed ts) ≡ w ∷ ts
unfolding tabbed
joined_cut w [] y none = ap fields (append-nil w) ∙ fields_last w y
joined_cut w (t ∷ ts) y (and o m) = fields_cut w (t ++ tabbed ts) y ∙ ap (λ x. w ∷ x) (joined_cut t ts o m)

one_line : (w : List ℕ) → One w → NoNewline w
one_line [] y = all_none NotNewline
one_line (b ∷ w) y = all_cons NotNewline b w (one_no_newline b w y) (one_line w (one_tail b w y))

pub joined_line : (w : List ℕ) (ts : List (List ℕ)) → One w → Each One ts → NoNewline (w ++ tabbed ts)
unfolding tabbed
joined_line w [] y none = rw append-nil (one_line w y)
joined_line w (t ∷ ts) y (and o m) =
    all_append NotNewline w (9 ∷ (t ++ tabbed ts)) (one_line w y)
    (all_cons NotNewline 9 (t ++ tabbed ts) refl (joined_line t ts o m))

-- cut, then joined
unfoldable pub joined : List (List ℕ) → List ℕ
joined [] = []
joined (w ∷ ts) = w ++ tabbed ts

fields_some : (l : List ℕ) → fields l ≡ [] → ⊥
fields_some l e = let c = fields_at l 0 in let z : ◌≡◌ {A = ℕ} 0 1 = cc in omega arith

pub cut_joined : (l : List ℕ) → joined (fields l) ≡ l
unfolding fields joined tabbed
cut_joined [] = refl
cut_joined (b ∷ l) = go (eqb b 9) refl (fields l) refl (cut_joined l)
  where
    go : (t : Bool) → eqb b 9 ≡ t → (x : List (List ℕ)) → fields l ≡ x → joined (fields l) ≡ l → joined (fields (b ∷ l)) ≡ b ∷ l
    go t y [] q i = absurd (fields_some l q)
    go true y (f ∷ x) q i = ap joined (yes! _ _ y) ∙ rw q (ap₂ ◌∷◌ (sym (eqb-true b 9 y)) (rw q at i))
    go false y (f ∷ x) q i = ap joined (no! _ _ y) ∙ rw q (ap (λ r. b ∷ r) (rw q at i))

-- a field of a line of bytes without a newline
pub record Fine (f : List ℕ) : Type 0 where
  pub bytes : AllBytes f
  pub one : One f

fine_none : Fine []
unfolding one_field
fine_none = record { bytes = all_none IsByte; one = refl }

fine_cons : (b : ℕ) (f : List ℕ) → IsByte b → eqb b 9 ≡ false → eqb b 10 ≡ false → Fine f → Fine (b ∷ f)
fine_cons b f k t n y = record { bytes = all_cons IsByte b f k y.bytes; one = one_cons b f t n y.one }

pub fine_fields : (l : List ℕ) → AllBytes l → NoNewline l → Each Fine (fields l)
unfolding fields
fine_fields [] k n = and fine_none none
fine_fields (b ∷ l) k n = go (eqb b 9) refl (fields l) refl (fine_fields l (all_tail IsByte b l k) (all_tail NotNewline b l n))
  where
    go : (t : Bool) → eqb b 9 ≡ t → (x : List (List ℕ)) → fields l ≡ x → Each Fine (fields l) → Each Fine (fields (b ∷ l))
    go t y [] q i = absurd (fields_some l q)
    go true y (f ∷ x) q i = rw (yes! ([] ∷ fields l) _ y) (and fine_none i)
    go false y (f ∷ x) q i = grow (rw q at i)
      where
        grow : Each Fine (f ∷ x) → Each Fine (fields (b ∷ l))
        grow (and o m) = rw (no! ([] ∷ fields l) _ y, q) (and (fine_cons b f (all_head IsByte b l k) y (all_head NotNewline b l n) o) m)
