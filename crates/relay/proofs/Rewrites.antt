-- A line that is written again has one newline, its last byte; what is not written has none. Assumes nothing.
use Rattle.std.proofs.Common.{◌≡◌, ℕ, suc, true, false, eqb, List, [], ◌∷◌, ◌++◌, refl, ap, ◌∙◌, arith}
use Rattle.lists.specs.Places.{one_if}
use Rattle.lists.proofs.Choice.{yes!, no! }
use Rattle.lists.proofs.Counting.{one_no}
use Rattle.model.specs.Lines.{read_line, data_of}
use Rattle.model.specs.Rewritten.{NoNewline, rewritten}
use Rattle.model.specs.Written.{written, takes}
use Rattle.inverse.proofs.OneLine.{written_line}
use Rattle.descriptors.specs.Came.{newlines}
use Rattle.descriptors.proofs.Newlines.{newlines_append}

none_in : (l : List ℕ) → NoNewline l → newlines l ≡ 0
unfolding newlines
none_in [] h = refl
none_in (b ∷ l) h =
    let k = one_no (eqb b 10) (h 0 (omega arith)) in
    let r = none_in l (λ i p. h (suc i) (omega arith)) in
    omega (arith, k, r)

module _ (l : List ℕ) where
  abbrev line : List ℕ
  line = written (read_line l) (data_of l)

  pub in_rewritten : takes (read_line l) (data_of l) ≡ true → newlines (rewritten l) ≡ 1
  unfolding rewritten newlines one_if
  in_rewritten e =
      let k = none_in line (written_line (read_line l) (data_of l) e).0 in
      ap newlines (yes! (line ++ (10 ∷ [])) [] e) ∙ newlines_append line (10 ∷ []) ∙ omega (arith, k)

  pub in_none : takes (read_line l) (data_of l) ≡ false → newlines (rewritten l) ≡ 0
  unfolding rewritten newlines
  in_none e = ap newlines (no! (line ++ (10 ∷ [])) [] e)
