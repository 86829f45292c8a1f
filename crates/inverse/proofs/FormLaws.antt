-- Each form by itself: its name picks it, a request that it makes has its number and its values, and is canonical. Assumes nothing.
use Prim.Native.Nat.{ℕ, zero, suc, ◌+◌, ◌<◌}
use mathlib.Core.Bool.{Bool, true, false}
use mathlib.Core.List.{List, [], ◌∷◌}
use mathlib.Core.Path.{◌≡◌, refl, ap, ◌∙◌}
use native.Mathlib.Omega.{arith}
use lib.ListN.{length, get_or}
use Rattle.lists.specs.Choice.{choose, both, either}
use Rattle.lists.proofs.Choice.{yes!, no! }
use Rattle.model.specs.declared.Request.{Request}
use Rattle.model.specs.declared.Request.TheVariants.{NotRead}
use Rattle.model.specs.Lines.{Form, forms, calls, no_form, form_at, same_bytes, read_by, make_by, read_fields, Values, values, unread}
use Rattle.model.specs.Parts.{parts_of, call_parts, canonical}
use Rattle.model.specs.Written.{one_field}
use Rattle.lines.proofs.Words.{same_bytes_lem}
use Rattle.inverse.proofs.Cutting.{One}
use Rattle.inverse.proofs.Readings.{kept}

-- its name picks the form
abbrev Picked : Form → Type 0
Picked f = (fs : List (List ℕ)) → read_by forms f.word fs ≡ make_by f.make (read_fields f.kinds fs)

-- what it makes has the form's number, and the values as they are kept
abbrev Parted : ℕ → Form → Type 0
Parted p f = (vs : List ℕ) → parts_of (f.make vs) ≡ record { form = p; values = kept f.kinds 0 vs }

-- and is canonical
abbrev MadeCanonical : Form → Type 0
MadeCanonical f = (vs : List ℕ) → canonical (f.make vs) ≡ f.make vs

pub record Lawful (p : ℕ) (f : Form) : Type 0 where
  pub picked : Picked f
  pub parts : Parted p f
  pub made_canonical : MadeCanonical f
  pub word_one : One f.word

law : {p : ℕ} {f : Form} → Picked f → Parted p f → MadeCanonical f → One f.word → Lawful p f
law a b c d = record { picked = a; parts = b; made_canonical = c; word_one = d }

-- all forms from number p on
data From : ℕ → List Form → Type 0 where
  none : {p : ℕ} → From p []
  and : {p : ℕ} {f : Form} {fs : List Form} → Lawful p f → From (p + 1) fs → From p (f ∷ fs)

each : From 0 forms
unfolding forms read_by same_bytes both either choose make_by parts_of call_parts kept canonical one_field
each = search (none, and, law) depth 40

law_from : (p : ℕ) (fs : List Form) → From p fs → (i : ℕ) → i < length fs → Lawful (p + i) (get_or fs i no_form)
law_from p [] e i h = absurd (omega arith)
law_from p (f ∷ fs) (and s e) zero h = let q : p + 0 ≡ p = omega arith in rw q s
law_from p (f ∷ fs) (and s e) (suc i) h = let q : p + suc i ≡ p + 1 + i = omega arith in rw q (law_from (p + 1) fs e i (omega arith))

pub law_at : (p : ℕ) → p < calls → Lawful p (form_at p)
law_at p h = let q : 0 + p ≡ p = omega arith in rw q at (law_from 0 forms each p h)

-- What a first field and the others are read as: nothing, or what a form makes whose name that field is.
pub data Made (q : Request) (fs : List Form) (w : List ℕ) (xs : List (List ℕ)) : Type 0 where
  unmade : q ≡ NotRead → Made q fs w xs
  made : (p : ℕ) (vs : List ℕ) → p < length fs → (get_or fs p no_form).word ≡ w → read_fields (get_or fs p no_form).kinds xs ≡ values vs
      → q ≡ (get_or fs p no_form).make vs → Made q fs w xs

later_made : (q : Request) (f : Form) (fs : List Form) (w : List ℕ) (xs : List (List ℕ)) → Made q fs w xs → Made q (f ∷ fs) w xs
later_made q f fs w xs (unmade e) = unmade e
later_made q f fs w xs (made p vs h e r m) = made (suc p) vs (omega arith) e r m

pub made_of : (fs : List Form) (w : List ℕ) (xs : List (List ℕ)) → Made (read_by fs w xs) fs w xs
unfolding read_by make_by
made_of [] w xs = unmade refl
made_of (f ∷ fs) w xs = go (same_bytes f.word w) refl (read_fields f.kinds xs) refl (later_made _ f fs w xs (made_of fs w xs))
  where
    go : (t : Bool) → same_bytes f.word w ≡ t → (x : Values) → read_fields f.kinds xs ≡ x → Made (read_by fs w xs) (f ∷ fs) w xs
        → Made (read_by (f ∷ fs) w xs) (f ∷ fs) w xs
    go true y unread r i = unmade (yes! _ _ y ∙ ap (make_by f.make) r)
    go true y (values vs) r i = made 0 vs (omega arith) (same_bytes_lem f.word w y) r (yes! _ _ y ∙ ap (make_by f.make) r)
    go false y x r i = rw (no! (make_by f.make (read_fields f.kinds xs)) (read_by fs w xs) y) i
