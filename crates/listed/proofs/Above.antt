-- The entries above a list, as a slice of the table. Assumes nothing.
use Prim.Native.Nat.{ℕ, zero, suc, ◌+◌, ◌-◌, ◌*◌, ◌≤◌, ◌<◌}
use mathlib.Core.Bool.{Bool, true, false}
use mathlib.Core.List.{List, ◌∷◌}
use mathlib.Core.Path.{◌≡◌, refl, sym, ap, ap₂, ◌∙◌}
use native.Mathlib.Omega.{arith}
use lib.ListN.{length, get_or, take, drop}
use Rattle.std.proofs.Common.{add-one}
use Rattle.std.specs.Prelude.{◌&&◌}
use Rattle.std.specs.List.{list_all}
use Rattle.lists.specs.Choice.{both}
use Rattle.lists.specs.Places.{all_from}
use Rattle.lists.proofs.Parts.{drop_next}
use native.Mathlib.Decide.{dec_le}
use Prim.Native.Nat.{min}
use Rattle.model.specs.declared.Entry.{Entry}
use Rattle.model.specs.SoundTest.{untouched_test}
use Rattle.model.specs.Tables.{unused_entry}
use Rattle.listed.proofs.Passes.{untouched_at}

module _ {A : Type 0} (p : A → Bool) (d : A) (xs : List A) (b : ℕ) where
  both_is : (x y : Bool) → x && y ≡ both x y
  unfolding both
  both_is true y = refl
  both_is false y = refl

  pub part_all : (n i : ℕ) → b + i + n ≤ length xs → list_all p (take n (drop (b + i) xs)) ≡ all_from (λ j. p (get_or xs (b + j) d)) i n
  unfolding all_from
  part_all zero i h = refl
  part_all (suc n) i h = let e : b + i + 1 ≡ b + (i + 1) = omega arith in rw (drop_next xs (b + i) d (omega arith), e) (both_is _ _ ∙ ap (both (p (get_or xs (b + i) d))) (part_all n (i + 1) (omega arith)))

all_none : (p : ℕ → Bool) (i : ℕ) → true ≡ all_from p i 0
unfolding all_from
all_none p i = refl

pub above_all : (es : List Entry) (k l m : ℕ) → k < 8 → length es ≡ 240 → m ≡ min l 30
    → list_all untouched_test (take (k * 30 + 30 - (k * 30 + m)) (drop (k * 30 + m) es)) ≡ all_from (untouched_at es k) l (30 - l)
above_all es k l m h long e = go (dec_le l 30)
  where
    go : Dec (l ≤ 30) → list_all untouched_test (take (k * 30 + 30 - (k * 30 + m)) (drop (k * 30 + m) es)) ≡ all_from (untouched_at es k) l (30 - l)
    go (yes b) = let q : m ≡ l = omega (arith, e) in let n : k * 30 + 30 - (k * 30 + m) ≡ 30 - l = omega (arith, e) in
        rw (n, q) (part_all untouched_test unused_entry es (k * 30) (30 - l) l (omega arith))
    go (no b) = let z : k * 30 + 30 - (k * 30 + m) ≡ 0 = omega (arith, e) in let n : 30 - l ≡ 0 = omega arith in rw (z, n) (all_none _ _)
