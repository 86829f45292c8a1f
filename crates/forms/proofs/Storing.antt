-- Of all forms one makes requests to store, and its last field alone is data. Assumes nothing.
use Prim.Native.Nat.{ℕ, zero, suc, ◌<◌}
use mathlib.Core.Bool.{Bool, true, false}
use mathlib.Core.List.{List, [], ◌∷◌}
use mathlib.Core.Path.{◌≡◌, refl, sym, ap, ◌∙◌}
use native.Mathlib.Omega.{arith}
use lib.ListN.{length, drop, length-drop}
use Rattle.lists.proofs.Choice.{true_false}
use Rattle.model.specs.Lines.{FieldKind, number, name, right, hex, Form, forms, at, stores, length_of, calls, form_at}
use Rattle.model.specs.Places.{EachForm, end, and}
use Rattle.forms.proofs.EachForm.{each_at}

unfoldable pub no_data : List FieldKind → Bool
no_data [] = true
no_data (number ∷ ks) = no_data ks
no_data (name ∷ ks) = no_data ks
no_data (right ∷ ks) = no_data ks
no_data (hex ∷ ks) = false

abbrev pub store_kinds : List FieldKind
store_kinds = number ∷ number ∷ number ∷ hex ∷ []

pub data Storing (f : Form) : Type 0 where
  never : no_data f.kinds ≡ true → ((v : List ℕ) → stores (f.make v) ≡ false) → Storing f
  last : f.kinds ≡ store_kinds → ((v : List ℕ) → stores (f.make v) ≡ true) → ((v : List ℕ) → length_of (f.make v) ≡ at v 3) → Storing f

pub each : EachForm Storing forms
unfolding forms stores length_of no_data
each = search (end, and, never, last) depth 40

pub storing_at : (p : ℕ) → p < calls → Storing (form_at p)
storing_at p h = each_at forms each p h

-- where a kind is data
never_data : (ks : List FieldKind) (k : ℕ) (rest : List FieldKind) → no_data ks ≡ true → drop k ks ≡ hex ∷ rest → ⊥
unfolding no_data
never_data [] zero rest y d = let z : ◌≡◌ {A = ℕ} 0 1 = cc in omega arith
never_data [] (suc k) rest y d = let z : ◌≡◌ {A = ℕ} 0 1 = cc in omega arith
never_data (number ∷ ks) zero rest y d = let z : ◌≡◌ {A = ℕ} 0 1 = cc in omega arith
never_data (name ∷ ks) zero rest y d = let z : ◌≡◌ {A = ℕ} 0 1 = cc in omega arith
never_data (right ∷ ks) zero rest y d = let z : ◌≡◌ {A = ℕ} 0 1 = cc in omega arith
never_data (hex ∷ ks) zero rest y d = true_false y refl
never_data (number ∷ ks) (suc k) rest y d = never_data ks k rest y d
never_data (name ∷ ks) (suc k) rest y d = never_data ks k rest y d
never_data (right ∷ ks) (suc k) rest y d = never_data ks k rest y d
never_data (hex ∷ ks) (suc k) rest y d = true_false y refl

last_data : (k : ℕ) (rest : List FieldKind) → drop k store_kinds ≡ hex ∷ rest → rest ≡ []
last_data zero rest d = let z : ◌≡◌ {A = ℕ} 0 1 = cc in absurd (omega arith)
last_data (suc zero) rest d = let z : ◌≡◌ {A = ℕ} 0 1 = cc in absurd (omega arith)
last_data (suc (suc zero)) rest d = let z : ◌≡◌ {A = ℕ} 0 1 = cc in absurd (omega arith)
last_data (suc (suc (suc zero))) rest d = cc
last_data (suc (suc (suc (suc k)))) rest d = absurd (omega (arith, length-drop {A = FieldKind} k [], ap length d))

module _ (f : Form) (k : ℕ) where
  pub data_end : Storing f → (rest : List FieldKind) → drop k f.kinds ≡ hex ∷ rest → rest ≡ []
  data_end (never n m) rest d = absurd (never_data f.kinds k rest n d)
  data_end (last e y l) rest d = last_data k rest (ap (drop k) (sym e) ∙ d)
