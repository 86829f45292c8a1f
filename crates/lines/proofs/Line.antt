-- What a line asks for, from what the code read of it. Assumes nothing.
use Rattle.std.proofs.Common.{◌≡◌, ℕ, ◌≤◌, ◌<◌, List, Some, None, eqb, length, get_or, drop, position, sym, ap, ◌∙◌, arith, w8, Fits, le-leb}
use borrow.Author.Tests.{lt-leb}
use Rattle.lists.proofs.Choice.{yes!, no! }
use Rattle.model.specs.declared.Request.{Request}
use Rattle.model.specs.declared.Request.TheVariants.{NotRead}
use Rattle.model.specs.Lines.{is, forms, make_by, read_fields, read_by, read_all, read_line, calls, form_at}
use Rattle.fields.specs.declared.Field.{Field}
use Rattle.fields.specs.Fields.{field_from, end_from, found, word_field}
use Rattle.fields.proofs.Spelling.{as_is, as_bad}
use Rattle.forms.specs.Tables.{call_names}
use Rattle.lines.specs.Fields.{following}
use Rattle.lines.proofs.Cuts.{fields_at, end_inside}
use Rattle.lines.proofs.Words.{first_bytes, read_unnamed, read_unknown, read_known}

pub line_long : (l : List ℕ) → 600 < length l → NotRead ≡ read_line l
unfolding read_line
line_long l h = sym (no! _ _ (lt-leb (length l) 600 h))

module _ (l : List ℕ) (h : length l ≤ 600) where
  line_is : read_line l ≡ read_by forms (field_from l 0) (following (drop (end_from l 0) l))
  unfolding read_line read_all
  line_is = yes! _ _ (le-leb (length l) 600 h) ∙ ap read_all (fields_at l 0)

  pub line_unnamed : None ≡ found (word_field (field_from l 0)) (end_from l 0) → NotRead ≡ read_line l
  line_unnamed q = sym (line_is ∙ read_unnamed _ _ (as_bad _ _ (sym q)))

  -- its first field is read
  module _ (f : Field) (q : Some f ≡ found (word_field (field_from l 0)) (end_from l 0)) where
    name : (word_field (field_from l 0) ≡ is f.value) × (end_from l 0 ≡ f.end)
    name = as_is _ _ f.value f.end (sym q)

    pub line_ends : f.end ≤ length l
    line_ends = omega (arith, end_inside l 0 (omega arith), name.1)

    pub line_unknown : None ≡ position (λ name. eqb name f.value) call_names → NotRead ≡ read_line l
    line_unknown m = sym (line_is ∙ read_unknown (field_from l 0) _ f.value name.0 (sym m))

    module _ (k : (i : ℕ) → Fits w8 (get_or l i 0)) (p : ℕ) (m : Some p ≡ position (λ name. eqb name f.value) call_names) where
      known : (p < calls) × (read_by forms (field_from l 0) (following (drop (end_from l 0) l)) ≡ make_by (form_at p).make (read_fields (form_at p).kinds (following (drop (end_from l 0) l))))
      known = read_known (field_from l 0) _ f.value p (first_bytes l (record { byte = λ i. (k i).fits })) name.0 (sym m)

      pub line_call : p < calls
      line_call = known.0

      pub line_known : (x : Request) → x ≡ make_by (form_at p).make (read_fields (form_at p).kinds (following (drop f.end l))) → x ≡ read_line l
      line_known x y = y ∙ rw (← name.1) (sym (line_is ∙ known.1))
