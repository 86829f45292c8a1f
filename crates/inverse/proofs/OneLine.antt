-- What the writer writes is one line that the reader cuts into its fields. Assumes nothing.
use Prim.Native.Nat.{ℕ, ◌≤◌, ◌<◌}
use mathlib.Core.Bool.{true}
use mathlib.Core.List.{List, ◌∷◌}
use mathlib.Core.Path.{◌≡◌}
use native.Mathlib.Omega.{arith}
use lib.Dec.{ltb}
use lib.ListN.{length}
use borrow.Author.Tests.{ltb-true}
use Rattle.lists.proofs.Choice.{both_left, both_right}
use Rattle.model.specs.declared.Request.{Request}
use Rattle.model.specs.Lines.{fields, calls}
use Rattle.model.specs.Parts.{parts_of, form_of}
use Rattle.model.specs.Rewritten.{NoNewline, WrittenLine}
use Rattle.model.specs.Written.{field_texts, written, takes_fields, takes}
use Rattle.forms.proofs.Sizes.{line_short}
use Rattle.inverse.proofs.Cutting.{Each, One, joined_cut, joined_line}
use Rattle.inverse.proofs.FormLaws.{Lawful, law_at}
use Rattle.inverse.proofs.WrittenFields.{texts_one}

module _ (q : Request) (d : List ℕ) where
  abbrev pub texts : List (List ℕ)
  texts = field_texts (form_of q).kinds (parts_of q).values d

  module _ (y : takes q d ≡ true) where
    pub taken_form : (parts_of q).form < calls
    unfolding takes
    taken_form = ltb-true (parts_of q).form calls (both_left _ _ y)

    pub taken_fields : takes_fields (form_of q).kinds (parts_of q).values d ≡ true
    unfolding takes
    taken_fields = both_right (ltb (parts_of q).form calls) _ y

    pub taken_law : Lawful (parts_of q).form (form_of q)
    taken_law = law_at (parts_of q).form taken_form

    texts_can : Each One texts
    texts_can = texts_one (form_of q).kinds (parts_of q).values d taken_fields

    pub written_cut : fields (written q d) ≡ (form_of q).word ∷ texts
    unfolding written
    written_cut = joined_cut (form_of q).word texts taken_law.word_one texts_can

    written_one : NoNewline (written q d)
    unfolding written
    written_one = joined_line (form_of q).word texts taken_law.word_one texts_can

    pub written_short : length (written q d) ≤ 600
    written_short = omega (arith, line_short q d y)

-- a written line is one line, and of at most 600 bytes
pub written_line : WrittenLine
written_line q d y = (written_one q d y, written_short q d y)
