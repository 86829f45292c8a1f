-- Fields that are read, as a list of readings; what was read of them is written as it was. Assumes nothing.
use Prim.Native.Nat.{ℕ, zero, suc, ◌+◌, ◌≤◌}
use mathlib.Core.Bool.{true}
use mathlib.Core.List.{List, [], ◌∷◌}
use mathlib.Core.Path.{◌≡◌, refl, ap, ap₂, ◌∙◌}
use native.Mathlib.Omega.{arith}
use lib.ListN.{get_or}
use Rattle.lists.specs.Choice.{choose}
use Rattle.lists.proofs.Choice.{both_intro, true_false}
use Rattle.model.specs.Lines.{is, hex_bytes, FieldKind, number, name, right, hex, field_of, values, read_fields, and_then, at, right_of}
use Rattle.model.specs.Parts.{right_number}
use Rattle.model.specs.Written.{field_texts, takes_fields}
use Rattle.forms.proofs.Storing.{no_data, store_kinds}
use Rattle.lines.proofs.Values.{first_of, none_of}
use Rattle.inverse.proofs.Cutting.{Each, and, Fine}
use Rattle.inverse.proofs.FieldTexts.{Holds, right_back, text_back}

pub data Reads : List FieldKind → List (List ℕ) → List ℕ → Type 0 where
  nothing : Reads [] [] []
  one : {k : FieldKind} {ks : List FieldKind} {f : List ℕ} {fs : List (List ℕ)} {v : ℕ} {vs : List ℕ} → field_of k f ≡ is v
      → Reads ks fs vs → Reads (k ∷ ks) (f ∷ fs) (v ∷ vs)

pub reads_to : {ks : List FieldKind} {fs : List (List ℕ)} {vs : List ℕ} → Reads ks fs vs → read_fields ks fs ≡ values vs
unfolding read_fields and_then
reads_to nothing = refl
reads_to (one e r) = rw (e, reads_to r)

one_at : (k : FieldKind) (ks : List FieldKind) (fs gs : List (List ℕ)) (vs ws f : List ℕ) (v : ℕ)
    → fs ≡ f ∷ gs → vs ≡ v ∷ ws → field_of k f ≡ is v → Reads ks gs ws → Reads (k ∷ ks) fs vs
one_at k ks fs gs vs ws f v p q e r = rw (p, q) (one e r)

pub reads_of : (ks : List FieldKind) (fs : List (List ℕ)) (vs : List ℕ) → read_fields ks fs ≡ values vs → Reads ks fs vs
reads_of [] fs vs e = let n = none_of fs vs e in rw (n.0, n.1) nothing
reads_of (k ∷ ks) fs vs e =
    let a = first_of k ks fs vs e in
    one_at k ks fs a.fields vs a.others a.field a.value a.is_field a.is_value a.spells
    (reads_of ks a.fields a.others a.read)

-- the values as a request keeps them: a right is a right, and a number again
abbrev kept_as : FieldKind → ℕ → ℕ
kept_as number v = v
kept_as name v = v
kept_as right v = right_number (right_of v)
kept_as hex v = v

unfoldable pub kept : List FieldKind → (place : ℕ) → List ℕ → List ℕ
kept [] i vs = []
kept (k ∷ ks) i vs = kept_as k (at vs i) ∷ kept ks (i + 1) vs

right_kept : (v : ℕ) → v ≤ 1 → right_number (right_of v) ≡ v
unfolding right_number right_of choose
right_kept zero h = refl
right_kept (suc zero) h = refl
right_kept (suc (suc v)) h = absurd (omega arith)

value_kept : (k : FieldKind) (f : List ℕ) (v : ℕ) → field_of k f ≡ is v → kept_as k v ≡ v
unfolding field_of
value_kept number f v e = refl
value_kept name f v e = refl
value_kept right f v e = right_kept v (right_back f v e).1
value_kept hex f v e = refl

kept_from : {ks : List FieldKind} {fs : List (List ℕ)} {vs : List ℕ} → Reads ks fs vs
    → (ws : List ℕ) (i : ℕ) → ((j : ℕ) → at ws (i + j) ≡ at vs j) → kept ks i ws ≡ vs
unfolding kept
kept_from nothing ws i h = refl
kept_from (one {k} {ks} {f} {fs} {v} {vs} e r) ws i h =
    let q : at ws i ≡ v = ap (at ws) (omega arith) ∙ h 0 in
    ap₂ ◌∷◌ (ap (kept_as k) q ∙ value_kept k f v e) (kept_from r ws (i + 1) (λ j. ap (at ws) (omega arith) ∙ h (suc j)))

pub kept_same : {ks : List FieldKind} {fs : List (List ℕ)} {vs : List ℕ} → Reads ks fs vs → kept ks 0 vs ≡ vs
kept_same {vs = vs} r = kept_from r vs 0 (λ j. ap (at vs) (omega arith))

-- data are those of the data field, where there is one
pub data Holding (d : List ℕ) : List FieldKind → List (List ℕ) → Type 0 where
  empty : Holding d [] []
  with : {k : FieldKind} {ks : List FieldKind} {f : List ℕ} {fs : List (List ℕ)} → Holds k f d → Holding d ks fs
      → Holding d (k ∷ ks) (f ∷ fs)

pub holding_none : (d : List ℕ) {ks : List FieldKind} {fs : List (List ℕ)} {vs : List ℕ} → Reads ks fs vs → no_data ks ≡ true
    → Holding d ks fs
unfolding no_data
holding_none d nothing y = empty
holding_none d (one {k = number} e r) y = with _ (holding_none d r y)
holding_none d (one {k = name} e r) y = with _ (holding_none d r y)
holding_none d (one {k = right} e r) y = with _ (holding_none d r y)
holding_none d (one {k = hex} e r) y = true_false y refl

pub holding_last : (fs : List (List ℕ)) {vs : List ℕ} → Reads store_kinds fs vs → Holding (hex_bytes (get_or fs 3 [])) store_kinds fs
holding_last fs (one a (one b (one c (one d nothing)))) = with _ (with _ (with _ (with refl empty)))

-- what was read is taken by the writer, and written as it was
pub record Rewrites (ks : List FieldKind) (fs : List (List ℕ)) (vs d : List ℕ) : Type 0 where
  pub taken : takes_fields ks vs d ≡ true
  pub texts : field_texts ks vs d ≡ fs

pub rewrites : {ks : List FieldKind} {fs : List (List ℕ)} {vs : List ℕ} (d : List ℕ) → Reads ks fs vs → Each Fine fs
    → Holding d ks fs → Rewrites ks fs vs d
unfolding takes_fields field_texts
rewrites d nothing i h = record { taken = refl; texts = refl }
rewrites d (one {k} {ks} {f} {fs} {v} {vs} e r) (and i m) (with h n) =
    let a = text_back k f v d i h e in
    let b = rewrites d r m n in
    record { taken = both_intro _ _ a.taken b.taken; texts = ap₂ ◌∷◌ a.text b.texts }
