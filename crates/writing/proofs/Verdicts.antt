-- What is answered and what is written, from the request taken apart. Assumes nothing.
use Prim.Native.Nat.{ℕ, ◌≤◌, ◌<◌}
use mathlib.Core.Bool.{Bool, true, false}
use mathlib.Core.List.{List, [], ◌∷◌, ◌++◌}
use mathlib.Core.Path.{◌≡◌, refl, sym, ap, ◌∙◌}
use native.Mathlib.Omega.{arith}
use lib.ListN.{length, take}
use lib.Seq.{take_at}
use borrow.Author.Tests.{lt-ltb, le-ltb, le-leb, lt-leb}
use Rattle.lists.specs.Bytes.{over}
use Rattle.lists.specs.Choice.{both}
use Rattle.lists.proofs.Choice.{yes!, no!, both_yes, both_no, both_not}
use Rattle.model.specs.declared.Answer.TheVariants.{Done, RoomTooSmall, NotWritten}
use Rattle.model.specs.declared.Request.{Request}
use Rattle.model.specs.Lines.{FieldKind, calls, form_at}
use Rattle.model.specs.Parts as model
use Rattle.model.specs.Parts.{parts_of}
use Rattle.model.specs.Written.{field_text, field_texts, tabbed, written, takes_field, takes_fields, takes, fits, write_answer, buffer_after}
use Rattle.digits.specs.Wrote.{Wrote}
use Rattle.parting.specs.declared.Parts.{Parts}
use Rattle.parting.specs.Apart.{Apart}

-- values behind those of the form's fields change nothing
takes_first : (ks : List FieldKind) (vs d : List ℕ) → takes_fields ks (take (length ks) vs) d ≡ takes_fields ks vs d
unfolding takes_fields
takes_first [] vs d = refl
takes_first (k ∷ ks) [] d = refl
takes_first (k ∷ ks) (v ∷ vs) d = ap (both (takes_field k v d)) (takes_first ks vs d)

texts_first : (ks : List FieldKind) (vs d : List ℕ) → field_texts ks (take (length ks) vs) d ≡ field_texts ks vs d
unfolding field_texts
texts_first [] vs d = refl
texts_first (k ∷ ks) [] d = refl
texts_first (k ∷ ks) (v ∷ vs) d = ap (λ ts. field_text k v d ∷ ts) (texts_first ks vs d)

-- 42
not_taken : (q : Request) (d out : List ℕ) → takes q d ≡ false → (NotWritten ≡ write_answer q d out) × (out ≡ buffer_after q d out)
unfolding write_answer buffer_after
not_taken q d out n = (sym (no! _ _ n), sym (no! _ _ (both_no _ n)))

pub no_form_written : (q : Request) (d out : List ℕ) → parts_of q ≡ record { form = calls; values = [] } → (NotWritten ≡ write_answer q d out) × (out ≡ buffer_after q d out)
unfolding takes
no_form_written q d out e = not_taken q d out (both_no _ (le-ltb (parts_of q).form calls (omega (arith, ap (λ (p : model.Parts). p.form) e))))

module _ (q : Request) (d out : List ℕ) (r : Parts) (a : Apart r (parts_of q)) where
  -- the fields of the form, by the values held
  by_held : (F : List FieldKind → List ℕ → Bool) → ((ks : List FieldKind) (vs : List ℕ) → F ks (take (length ks) vs) ≡ F ks vs)
      → F (form_at (parts_of q).form).kinds (parts_of q).values ≡ F (form_at r.form).kinds r.values
  by_held F e = ap (F (form_at (parts_of q).form).kinds) (sym a.values) ∙ e _ r.values ∙ ap (λ p. F (form_at p).kinds r.values) (sym a.form)

  takes_is : takes q d ≡ takes_fields (form_at r.form).kinds r.values d
  unfolding takes
  takes_is =
      both_yes _ (lt-ltb (parts_of q).form calls (omega (arith, a.form, a.known)))
      ∙ by_held (λ ks vs. takes_fields ks vs d) (λ ks vs. takes_first ks vs d)

  written_is : written q d ≡ (form_at r.form).word ++ tabbed (field_texts (form_at r.form).kinds r.values d)
  unfolding written
  written_is =
      ap (λ vs. (form_at (parts_of q).form).word ++ tabbed (field_texts (form_at (parts_of q).form).kinds vs d)) (sym a.values)
      ∙ ap (λ ts. (form_at (parts_of q).form).word ++ tabbed ts) (texts_first (form_at (parts_of q).form).kinds r.values d)
      ∙ ap (λ p. (form_at p).word ++ tabbed (field_texts (form_at p).kinds r.values d)) (sym a.form)

  module _ (t : Bool) (e : t ≡ takes_fields (form_at r.form).kinds r.values d) where
    pub not_written : t ≡ false → (NotWritten ≡ write_answer q d out) × (out ≡ buffer_after q d out)
    not_written n = not_taken q d out (takes_is ∙ (sym e ∙ n))

    -- a line, made aside
    module _ (y : t ≡ true) {o o₁ : List ℕ} {n : ℕ} (w : Wrote o 0 ((form_at r.form).word ++ tabbed (field_texts (form_at r.form).kinds r.values d)) o₁ n) where
      taken : takes q d ≡ true
      taken = takes_is ∙ (sym e ∙ y)

      long : length (written q d) ≡ n
      long = ap length written_is ∙ sym (w.place ∙ omega arith)

      -- 41
      pub no_room : length out < n → (RoomTooSmall ≡ write_answer q d out) × (out ≡ buffer_after q d out)
      unfolding write_answer buffer_after fits
      no_room l =
          let f = lt-leb (length (written q d)) (length out) (omega (arith, long)) in
          (sym (yes! _ _ taken ∙ no! _ _ f), sym (no! _ _ (both_not _ _ f)))

      pub done : (out₁ : List ℕ) → n ≤ length out → out₁ ≡ over out 0 (take n o₁) → (Done n ≡ write_answer q d out) × (out₁ ≡ buffer_after q d out)
      unfolding write_answer buffer_after fits over
      done out₁ l u =
          let f = le-leb (length (written q d)) (length out) (omega (arith, long)) in
          let c : take n o₁ ≡ written q d = ap (take n) w.bytes ∙ (take_at _ _ n (omega (arith, w.place)) ∙ sym written_is) in
          (sym (yes! _ _ taken ∙ (yes! _ _ f ∙ ap Done long)), (u ∙ ap (over out 0) c) ∙ sym (yes! _ _ (both_yes _ taken ∙ f)))
