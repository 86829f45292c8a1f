-- How long the line of a request that the writer takes may be. Assumes nothing.
use Prim.Native.Nat.{ℕ, ◌+◌, ◌≤◌, ◌<◌}
use mathlib.Core.Bool.{Bool, true}
use mathlib.Core.List.{List, [], ◌∷◌}
use mathlib.Core.Path.{◌≡◌, refl}
use native.Mathlib.Omega.{arith}
use lib.Dec.{eqb, leb}
use lib.ListN.{length, take, length-append, length-take}
use borrow.Author.Tests.{leb-true, ltb-true}
use Rattle.lists.specs.Choice.{both}
use Rattle.lists.specs.Places.{every, all_from}
use Rattle.lists.proofs.Choice.{choose_elim, both_left, both_right, true_false}
use Rattle.lists.proofs.Places.{every_at}
use Rattle.model.specs.declared.Request.{Request}
use Rattle.model.specs.Lines.{FieldKind, number, name, right, hex, calls, form_at, forms}
use Rattle.model.specs.Names.{blanks, name_bytes}
use Rattle.model.specs.Parts.{parts_of}
use Rattle.model.specs.Written.{unpadded, right_text, field_text, field_texts, tabbed, written, takes_field, takes_fields, takes}
use Rattle.digits.proofs.Decimals.{decimal_short}
use Rattle.digits.proofs.Hexes.{hex_length}
use Rattle.forms.specs.Sizes.{most_of, most_in, most_bytes}

unpadded_short : (l : List ℕ) → length (unpadded l) ≤ length l
unfolding unpadded
unpadded_short [] = omega arith
unpadded_short (b ∷ l) =
    let h = unpadded_short l in
    choose_elim (λ (x : List ℕ). length x ≤ length (b ∷ l)) (blanks (b ∷ l)) [] (b ∷ unpadded l) (λ _. omega arith) (λ _. omega (arith, h))

name_short : (n : ℕ) → length (unpadded (name_bytes n)) ≤ 8
unfolding name_bytes
name_short n = unpadded_short _

right_short : (v : ℕ) → length (right_text v) ≤ 1
unfolding right_text
right_short v = choose_elim (λ (x : List ℕ). length x ≤ 1) (eqb v 0) _ _ (λ _. omega arith) (λ _. omega arith)

pub field_short : (k : FieldKind) (v : ℕ) (d : List ℕ) → takes_field k v d ≡ true → length (field_text k v d) ≤ most_of k
unfolding field_text most_of takes_field
field_short number v d t = decimal_short v
field_short name v d t = name_short v
field_short right v d t = right_short v
field_short hex v d t = omega (arith, hex_length (take v d), length-take v d, leb-true v 257 (both_left (leb v 257) _ t))

texts_short : (ks : List FieldKind) (vs d : List ℕ) → takes_fields ks vs d ≡ true → length (tabbed (field_texts ks vs d)) ≤ most_in ks
unfolding field_texts tabbed takes_fields most_in
texts_short [] vs d t = omega arith
texts_short (k ∷ ks) [] d t = true_false t refl
texts_short (k ∷ ks) (v ∷ vs) d t =
    let f = field_short k v d (both_left (takes_field k v d) _ t) in
    let r = texts_short ks vs d (both_right (takes_field k v d) _ t) in
    omega (arith, f, r, length-append (field_text k v d) (tabbed (field_texts ks vs d)))

-- every form, by a test that is computed
form_test : ℕ → Bool
form_test p = leb (length (form_at p).word + most_in (form_at p).kinds) most_bytes

forms_pass : every form_test calls ≡ true
unfolding form_test every all_from both forms most_in most_of
forms_pass = refl

pub form_short : (p : ℕ) → p < calls → length (form_at p).word + most_in (form_at p).kinds ≤ most_bytes
unfolding form_test
form_short p h = leb-true _ most_bytes (every_at form_test calls forms_pass p h)

pub line_short : (q : Request) (d : List ℕ) → takes q d ≡ true → length (written q d) ≤ most_bytes
unfolding takes written
line_short q d t =
    let f = form_short (parts_of q).form (ltb-true _ calls (both_left _ _ t)) in
    let r = texts_short _ (parts_of q).values d (both_right _ _ t) in
    omega (arith, f, r, length-append (form_at (parts_of q).form).word (tabbed (field_texts (form_at (parts_of q).form).kinds (parts_of q).values d)))
