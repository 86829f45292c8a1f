-- The values of fields that were read. A number or a count fits 32 bits, so that its lower 32 bits are all of it. Assumes
-- nothing.
use Prim.Native.Nat.{ℕ, suc, ◌+◌, ◌/◌, ◌<◌}
use mathlib.Core.List.{List, [], ◌∷◌}
use mathlib.Core.Path.{◌≡◌, refl, sym, ap, ap₂, ◌∙◌}
use native.Mathlib.Omega.{arith}
use lib.ListN.{length}
use borrow.Author.Tests.{leb-true}
use Rattle.lists.proofs.Choice.{both_left, both_right}
use Rattle.fields.proofs.Spelling.{spelt_is}
use Rattle.lines.specs.Made.{low, lowered}
use Rattle.model.specs.Lines.{Spelt, is, bad, number_field, decimal_from, hex_field, FieldKind, number, name, right, hex, field_of, Values, values, unread, and_then, read_fields, at}

low_same : (k : FieldKind) (f : List ℕ) (n : ℕ) → field_of k f ≡ is n → low k n ≡ n
unfolding field_of low number_field hex_field
low_same number f n e =
    let s = spelt_is _ _ n e in
    let l = leb-true (decimal_from 0 f) 4294967295 (both_right _ _ s.0) in
    omega (arith, s.1)
low_same name f n e = refl
low_same right f n e = refl
low_same hex f n e =
    let s = spelt_is _ (length f / 2) n e in
    let l = leb-true (length f) 514 (both_right _ _ (both_left _ _ s.0)) in
    omega (arith, s.1)

-- Fields that are read: a first one, its value, and the others with theirs.
pub record First (k : FieldKind) (ks : List FieldKind) (fs : List (List ℕ)) (vs : List ℕ) : Type 0 where
  pub field : List ℕ
  pub fields : List (List ℕ)
  pub value : ℕ
  pub others : List ℕ
  pub is_field : fs ≡ field ∷ fields
  pub is_value : vs ≡ value ∷ others
  pub spells : field_of k field ≡ is value
  pub read : read_fields ks fields ≡ values others

pub first_of : (k : FieldKind) (ks : List FieldKind) (fs : List (List ℕ)) (vs : List ℕ) → read_fields (k ∷ ks) fs ≡ values vs → First k ks fs vs
unfolding read_fields and_then
first_of k ks [] vs e = let z : ◌≡◌ {A = ℕ} 0 1 = cc in absurd (omega arith)
first_of k ks (f ∷ fs) vs e = go (field_of k f) refl (read_fields ks fs) refl e
  where
    go : (s : Spelt) → field_of k f ≡ s → (x : Values) → read_fields ks fs ≡ x → and_then s x ≡ values vs → First k ks (f ∷ fs) vs
    go bad p x q r = let z : ◌≡◌ {A = ℕ} 0 1 = cc in absurd (omega arith)
    go (is n) p unread q r = let z : ◌≡◌ {A = ℕ} 0 1 = cc in absurd (omega arith)
    go (is n) p (values ns) q r =
        let u : vs ≡ n ∷ ns = cc in
        record { field = f; fields = fs; value = n; others = ns; is_field = refl; is_value = u; spells = p; read = q }

pub none_of : (fs : List (List ℕ)) (vs : List ℕ) → read_fields [] fs ≡ values vs → (fs ≡ []) × (vs ≡ [])
unfolding read_fields
none_of [] vs e = (refl, cc)
none_of (f ∷ fs) vs e = let z : ◌≡◌ {A = ℕ} 0 1 = cc in absurd (omega arith)

pub lowered_is : (ks : List FieldKind) (fs : List (List ℕ)) (vs v : List ℕ) (j : ℕ) → read_fields ks fs ≡ values vs → ((i : ℕ) → i < length ks → at v (j + i) ≡ at vs i) → lowered ks j v ≡ vs
unfolding lowered
lowered_is [] fs vs v j e h = sym (none_of fs vs e).1
lowered_is (k ∷ ks) fs vs v j e h =
    let a = first_of k ks fs vs e in
    let x : at v j ≡ a.value = ap (at v) (omega arith) ∙ h 0 (omega arith) ∙ ap (λ l. at l 0) a.is_value in
    let xs = lowered_is ks a.fields a.others v (j + 1) a.read (λ i l. ap (at v) (omega arith) ∙ h (suc i) (omega arith) ∙ ap (λ l. at l (suc i)) a.is_value) in
    ap₂ ◌∷◌ (ap (low k) x ∙ low_same k a.field a.value a.spells) xs ∙ sym a.is_value
