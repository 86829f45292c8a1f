-- The bytes of a name's field are tested one by one. Assumes nothing.
use Prim.Native.Nat.{ℕ, ◌<◌}
use mathlib.Core.Bool.{Bool, true, false, not}
use mathlib.Core.List.{List, [], ◌∷◌}
use mathlib.Core.Path.{◌≡◌, refl, sym, ap, ◌∙◌}
use native.Mathlib.Omega.{arith}
use lib.Dec.{leb}
use lib.ListN.{length}
use borrow.Author.Tests.{le-leb}
use Rattle.std.specs.Prelude.{◌==◌, ◌||◌, ◌&&◌}
use Rattle.std.specs.List.{list_all}
use Rattle.lists.specs.Choice.{both, either}
use Rattle.model.specs.Lines.{no_blank}
use Rattle.model.specs.Written.{one_field}

-- neither a blank nor the end of a field
abbrev pub inside : ℕ → Bool
inside b = not (b == 32 || b == 9 || b == 10)

split : (a b c x y : Bool) → both (both (not a) x) (both (not (either b c)) y) ≡ not (a || b || c) && both x y
unfolding either both
split true b c x y = refl
split false true c true y = refl
split false true c false y = refl
split false false true true y = refl
split false false true false y = refl
split false false false x y = refl

all_inside : (l : List ℕ) → list_all inside l ≡ both (no_blank l) (one_field l)
unfolding no_blank one_field both
all_inside [] = refl
all_inside (b ∷ l) = ap (λ r. inside b && r) (all_inside l) ∙ sym (split (b == 32) (b == 9) (b == 10) (no_blank l) (one_field l))

-- a text of some bytes, and one of none
pub field_is : (l : List ℕ) (r : Bool) → 0 < length l → r ≡ list_all inside l → r ≡ both (both (leb 1 (length l)) (no_blank l)) (one_field l)
unfolding both
field_is l r h e = rw (le-leb 1 (length l) h) (e ∙ all_inside l)

pub no_field : (l : List ℕ) (r : Bool) → length l ≡ 0 → r ≡ false → r ≡ both (both (leb 1 (length l)) (no_blank l)) (one_field l)
unfolding both
no_field [] r z e = e
no_field (b ∷ l) r z e = absurd (omega arith)
