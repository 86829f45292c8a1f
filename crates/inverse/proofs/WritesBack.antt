-- "writing a request read from a good line gives the same bytes". Assumes nothing.
use Prim.Native.Nat.{ℕ, ◌<◌}
use mathlib.Core.Bool.{true}
use mathlib.Core.List.{List, [], ◌∷◌, ◌++◌}
use mathlib.Core.Path.{◌≡◌, sym, ap, ◌∙◌}
use lib.Dec.{ltb}
use lib.ListN.{get_or}
use borrow.Author.Tests.{lt-ltb}
use Rattle.lists.specs.Choice.{both}
use Rattle.lists.proofs.Choice.{both_intro, yes! }
use Rattle.model.specs.declared.Request.{Request}
use Rattle.model.specs.Lines.{fields, calls, form_at, values, read_fields, read_line, hex_bytes, stores, data_of}
use Rattle.model.specs.Parts.{parts_of}
use Rattle.model.specs.Rewritten.{AllBytes, NoNewline, WritesBack}
use Rattle.model.specs.Written.{field_texts, tabbed, written, takes_fields, takes}
use Rattle.forms.proofs.Storing.{Storing, never, last, storing_at}
use Rattle.inverse.proofs.Cutting.{Each, and, Fine, joined, cut_joined, fine_fields}
use Rattle.inverse.proofs.FormLaws.{law_at}
use Rattle.inverse.proofs.LineRead.{LineRead, unasked, asked, line_read}
use Rattle.inverse.proofs.Readings.{Reads, reads_of, kept_same, Holding, holding_none, holding_last, Rewrites, rewrites}

-- what the writer makes of a request whose parts are known
module _ (q : Request) (d : List ℕ) (p : ℕ) (vs : List ℕ) (e : parts_of q ≡ record { form = p; values = vs }) where
  pub takes_by : takes q d ≡ both (ltb p calls) (takes_fields (form_at p).kinds vs d)
  unfolding takes
  takes_by = rw e

  written_by : written q d ≡ (form_at p).word ++ tabbed (field_texts (form_at p).kinds vs d)
  unfolding written
  written_by = rw e

-- a line that a form reads
module _ (l : List ℕ) (p : ℕ) (xs : List (List ℕ)) (vs : List ℕ) (h : p < calls) (c : fields l ≡ (form_at p).word ∷ xs)
    (r : read_fields (form_at p).kinds xs ≡ values vs) (m : read_line l ≡ (form_at p).make vs) where
  its_reading : Reads (form_at p).kinds xs vs
  its_reading = reads_of (form_at p).kinds xs vs r

  parts_are : parts_of (read_line l) ≡ record { form = p; values = vs }
  parts_are = ap parts_of m ∙ (law_at p h).parts vs ∙ rw (kept_same its_reading)

  holding : Storing (form_at p) → Holding (data_of l) (form_at p).kinds xs
  unfolding data_of
  holding (never n f) = holding_none (data_of l) its_reading n
  holding (last e y f) =
      let d : data_of l ≡ hex_bytes (get_or xs 3 []) = yes! _ _ (ap stores m ∙ y vs) ∙ ap (λ fs. hex_bytes (get_or fs 4 [])) c in
      rw (d, e) (holding_last xs (rw e at its_reading))

  fine_others : Each Fine ((form_at p).word ∷ xs) → Each Fine xs
  fine_others (and f fs) = fs

  back : AllBytes l → NoNewline l → Rewrites (form_at p).kinds xs vs (data_of l)
  back k n = rewrites (data_of l) its_reading (fine_others (rw c at (fine_fields l k n))) (holding (storing_at p h))

  both_back : AllBytes l → NoNewline l → (takes (read_line l) (data_of l) ≡ true) × (written (read_line l) (data_of l) ≡ l)
  unfolding joined
  both_back k n =
      let b = back k n in (
        takes_by (read_line l) (data_of l) p vs parts_are ∙ both_intro _ _ (lt-ltb p calls h) b.taken,
        written_by (read_line l) (data_of l) p vs parts_are ∙ ap (λ ts. (form_at p).word ++ tabbed ts) b.texts
            ∙ ap joined (sym c)
            ∙ cut_joined l,
      )

pub writes_back : WritesBack
writes_back l k n some = go (line_read l)
  where
    go : LineRead l → (takes (read_line l) (data_of l) ≡ true) × (written (read_line l) (data_of l) ≡ l)
    go (unasked e) = absurd (some e)
    go (asked p xs vs h c r m) = both_back l p xs vs h c r m k n
