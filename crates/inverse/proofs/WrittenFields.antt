-- The texts of all fields of a request that the writer takes: they can stand in a line, and they are read as the
-- values. Assumes nothing.
use Prim.Native.Nat.{ℕ, zero, suc, ◌≤◌, ◌<◌}
use mathlib.Core.Bool.{Bool, true, false}
use mathlib.Core.List.{List, [], ◌∷◌}
use mathlib.Core.Path.{◌≡◌, refl}
use native.Mathlib.Omega.{arith}
use lib.Dec.{leb}
use lib.ListN.{length, get_or}
use borrow.Author.Tests.{leb-true}
use Rattle.lists.specs.Choice.{both}
use Rattle.lists.proofs.Choice.{both_left, both_right, true_false}
use Rattle.model.specs.Lines.{FieldKind, number, name, right, hex, at}
use Rattle.model.specs.Rewritten.{AllBytes}
use Rattle.model.specs.Written.{field_text, field_texts, takes_field, takes_fields}
use Rattle.inverse.proofs.Cutting.{Each, none, and, One}
use Rattle.inverse.proofs.FieldTexts.{Narrowed, text_one, text_reads}
use Rattle.inverse.proofs.Readings.{Reads, nothing, one}

pub texts_one : (ks : List FieldKind) (vs d : List ℕ) → takes_fields ks vs d ≡ true → Each One (field_texts ks vs d)
unfolding takes_fields field_texts
texts_one [] vs d y = none
texts_one (k ∷ ks) [] d y = none
texts_one (k ∷ ks) (v ∷ vs) d y = and (text_one k v d (both_left _ _ y)) (texts_one ks vs d (both_right (takes_field k v d) _ y))

-- the text at each place
pub text_at : (ks : List FieldKind) (vs d : List ℕ) (i : ℕ) → takes_fields ks vs d ≡ true → i < length ks
    → get_or (field_texts ks vs d) i [] ≡ field_text (get_or ks i name) (at vs i) d
unfolding takes_fields field_texts
text_at [] vs d i y h = absurd (omega arith)
text_at (k ∷ ks) [] d i y h = true_false y refl
text_at (k ∷ ks) (v ∷ vs) d zero y h = refl
text_at (k ∷ ks) (v ∷ vs) d (suc i) y h = text_at ks vs d i (both_right (takes_field k v d) _ y) (omega arith)

-- Values in the shape of their kinds: as many, and the rights among them 0 or 1
unfoldable pub shaped_one : FieldKind → ℕ → Bool
shaped_one number v = true
shaped_one name v = true
shaped_one right v = leb v 1
shaped_one hex v = true

unfoldable pub shaped : List FieldKind → List ℕ → Bool
shaped [] [] = true
shaped [] (v ∷ vs) = false
shaped (k ∷ ks) [] = false
shaped (k ∷ ks) (v ∷ vs) = both (shaped_one k v) (shaped ks vs)

narrowed : (k : FieldKind) (v : ℕ) → shaped_one k v ≡ true → (k ≡ number → v ≤ 4294967295) → Narrowed k v
unfolding shaped_one
narrowed number v y n = n refl
narrowed name v y n = _
narrowed right v y n = leb-true v 1 y
narrowed hex v y n = _

pub texts_read : (ks : List FieldKind) (vs d : List ℕ) → AllBytes d → shaped ks vs ≡ true
    → ((i : ℕ) → get_or ks i name ≡ number → at vs i ≤ 4294967295) → takes_fields ks vs d ≡ true → Reads ks (field_texts ks vs d) vs
unfolding shaped takes_fields field_texts
texts_read [] [] d b s n y = nothing
texts_read [] (v ∷ vs) d b s n y = true_false s refl
texts_read (k ∷ ks) [] d b s n y = true_false s refl
texts_read (k ∷ ks) (v ∷ vs) d b s n y =
    one (text_reads k v d b (narrowed k v (both_left _ _ s) (n 0)) (both_left _ _ y))
    (texts_read ks vs d b (both_right (shaped_one k v) _ s) (λ i. n (suc i)) (both_right (takes_field k v d) _ y))
