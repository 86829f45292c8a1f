-- "Reading a written line gives the request back", its data too. Assumes nothing.
use Prim.Native.Nat.{ℕ}
use mathlib.Core.Bool.{true}
use mathlib.Core.List.{List, []}
use mathlib.Core.Path.{◌≡◌, refl, sym, ap, ◌∙◌}
use native.Mathlib.Omega.{arith}
use lib.ListN.{length, get_or, take}
use borrow.Author.Tests.{le-leb}
use Rattle.lists.specs.Choice.{choose}
use Rattle.lists.proofs.Choice.{yes!, choose_eq, true_false}
use Rattle.model.specs.declared.Request.{Request}
use Rattle.model.specs.Lines.{fields, name, at, make_by, read_all, read_line, stores, length_of, hex_bytes, data_of}
use Rattle.model.specs.Parts.{parts_of, form_of, canonical, data_in}
use Rattle.model.specs.Rewritten.{Narrow, AllBytes, ReadsBack}
use Rattle.model.specs.Written.{field_text, written, takes}
use Rattle.digits.proofs.ReadsBack.{hex_read}
use Rattle.forms.proofs.Storing.{Storing, never, last, storing_at}
use Rattle.inverse.proofs.FieldTexts.{take_bytes}
use Rattle.inverse.proofs.OneLine.{texts, taken_form, taken_fields, taken_law, written_cut, written_short}
use Rattle.inverse.proofs.Readings.{reads_to}
use Rattle.inverse.proofs.Requests.{whole}
use Rattle.inverse.proofs.WrittenFields.{texts_read, text_at}

module _ (q : Request) (d : List ℕ) (bytes : AllBytes d) (y : takes q d ≡ true) where
  -- the request
  read_back : Narrow q → read_line (written q d) ≡ canonical q
  unfolding read_line read_all make_by
  read_back n =
      yes! _ _ (le-leb (length (written q d)) 600 (written_short q d y))
      ∙ ap read_all (written_cut q d y)
      ∙ (taken_law q d y).picked (texts q d)
      ∙ ap (make_by (form_of q).make)
      (reads_to (texts_read (form_of q).kinds (parts_of q).values d bytes (whole q).shape n (taken_fields q d y)))
      ∙ (whole q).remade

  -- the data, where there are any
  hexes_read : Storing (form_of q) → stores (canonical q) ≡ true → hex_bytes (get_or (texts q d) 3 []) ≡ take (length_of (canonical q)) d
  unfolding field_text
  hexes_read (never n f) s = true_false s (ap stores (sym (whole q).remade) ∙ f (parts_of q).values)
  hexes_read (last e t m) s =
      let v = at (parts_of q).values 3 in
      let c : length_of (canonical q) ≡ v = ap length_of (sym (whole q).remade) ∙ m (parts_of q).values in
      let w = text_at (form_of q).kinds (parts_of q).values d 3 (taken_fields q d y) (omega (arith, ap length e)) in
      ap hex_bytes (w ∙ ap (λ ks. field_text (get_or ks 3 name) v d) e)
      ∙ hex_read (take v d) (take_bytes v d bytes)
      ∙ ap (λ n. take n d) (sym c)

  data_back : read_line (written q d) ≡ canonical q → data_of (written q d) ≡ data_in q d
  unfolding data_of data_in
  data_back e =
      let store = storing_at (parts_of q).form (taken_form q d y) in
      ap (λ r. choose (stores r) (hex_bytes (get_or (fields (written q d)) 4 [])) []) e
      ∙ choose_eq (stores (canonical q)) (λ s. ap (λ fs. hex_bytes (get_or fs 4 [])) (written_cut q d y) ∙ hexes_read store s) (λ _. refl)
      ∙ (whole q).same_data d

pub reads_back : ReadsBack
reads_back q d n bytes y = let e = read_back q d bytes y n in (e, data_back q d bytes y e)
