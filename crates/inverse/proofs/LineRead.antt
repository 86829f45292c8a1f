-- A line is not read, or its fields are a form's name and fields whose values the form makes a request of. What was read is
-- canonical. Assumes nothing.
use Prim.Native.Nat.{ℕ, ◌<◌}
use mathlib.Core.Bool.{Bool, true, false}
use mathlib.Core.List.{List, [], ◌∷◌}
use mathlib.Core.Path.{◌≡◌, refl, sym, ap, ◌∙◌}
use lib.Dec.{leb}
use lib.ListN.{length}
use Rattle.lists.proofs.Choice.{yes!, no! }
use Rattle.model.specs.declared.Request.TheVariants.{NotRead}
use Rattle.model.specs.Lines.{fields, forms, calls, form_at, values, read_fields, read_by, read_all, read_line}
use Rattle.model.specs.Parts.{canonical}
use Rattle.model.specs.Rewritten.{ReadCanonical}
use Rattle.inverse.proofs.FormLaws.{Made, unmade, made, made_of, law_at}

pub data LineRead (l : List ℕ) : Type 0 where
  unasked : read_line l ≡ NotRead → LineRead l
  asked : (p : ℕ) (xs : List (List ℕ)) (vs : List ℕ) → p < calls → fields l ≡ (form_at p).word ∷ xs
      → read_fields (form_at p).kinds xs ≡ values vs → read_line l ≡ (form_at p).make vs → LineRead l

by_form : (l w : List ℕ) (xs : List (List ℕ)) → fields l ≡ w ∷ xs → read_line l ≡ read_by forms w xs
    → Made (read_by forms w xs) forms w xs → LineRead l
by_form l w xs c e (unmade n) = unasked (e ∙ n)
by_form l w xs c e (made p vs h n r m) = asked p xs vs h (c ∙ ap (λ x. x ∷ xs) (sym n)) r (e ∙ m)

pub line_read : (l : List ℕ) → LineRead l
unfolding read_line read_all
line_read l = go (leb (length l) 600) refl (fields l) refl
  where
    go : (t : Bool) → leb (length l) 600 ≡ t → (x : List (List ℕ)) → fields l ≡ x → LineRead l
    go false y x c = unasked (no! _ _ y)
    go true y [] c = unasked (yes! _ _ y ∙ ap read_all c)
    go true y (w ∷ xs) c = by_form l w xs c (yes! _ _ y ∙ ap read_all c) (made_of forms w xs)

pub read_canonical : ReadCanonical
unfolding canonical
read_canonical l = go (line_read l)
  where
    go : LineRead l → canonical (read_line l) ≡ read_line l
    go (unasked e) = rw e
    go (asked p xs vs h c r m) = rw m ((law_at p h).made_canonical vs)
