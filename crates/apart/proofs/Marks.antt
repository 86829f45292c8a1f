-- Two live spaces whose marks don't clash stand apart. Assumes nothing.
use Prim.Native.Nat.{ℕ, ◌+◌, ◌%◌, ◌≤◌, ◌<◌}
use mathlib.Core.Bool.{true, not}
use mathlib.Core.Logic.{◌⊎◌, inl, inr, ◌≢◌}
use mathlib.Core.Path.{◌≡◌, sym, ap, ap₂, ◌∙◌}
use native.Mathlib.Decide.{dec_le}
use native.Mathlib.Omega.{arith}
use borrow.Author.Tests.{ne_eqb, le-ltb, lt-ltb}
use Rattle.lists.proofs.Choice.{yes!, no! }
use Rattle.model.specs.declared.Space.{Space}
use Rattle.model.specs.SoundTest.{pair_test}
use Rattle.model.specs.Tables.{live}
use Rattle.model.proofs.SoundParts.{PairFacts, pair_decides}
use Rattle.apart.specs.Marks.{id_mark, spread_of, name_mark, cut, first_mark, end_mark}
use Rattle.apart.specs.Warns.{Parted}

cut_is : (m n : ℕ) → ((n ≤ m) × (cut m n ≡ n)) ⊎ ((m < n) × (cut m n ≡ m))
unfolding cut
cut_is m n = go (dec_le n m)
  where
    go : Dec (n ≤ m) → ((n ≤ m) × (cut m n ≡ n)) ⊎ ((m < n) × (cut m n ≡ m))
    go (yes l) = inl (l, no! m n (le-ltb m n l))
    go (no l) = inr (omega arith, yes! m n (lt-ltb m n (omega arith)))

-- an end that was cut lies above every first frame
end_first : (x y : Space) → end_mark x ≤ first_mark y → x.first + x.pages ≤ y.first
end_first x y h = go (cut_is 65535 (x.first + x.pages)) (cut_is 65534 y.first)
  where
    go : ((x.first + x.pages ≤ 65535) × (end_mark x ≡ x.first + x.pages)) ⊎ ((65535 < x.first + x.pages) × (end_mark x ≡ 65535))
        → ((y.first ≤ 65534) × (first_mark y ≡ y.first)) ⊎ ((65534 < y.first) × (first_mark y ≡ 65534)) → x.first + x.pages ≤ y.first
    go (inl a) (inl b) = omega (arith, a.1, b.1)
    go (inl a) (inr b) = omega (arith, a.1, b.0, b.1)
    go (inr a) (inl b) = omega (arith, a.1, b.0, b.1)
    go (inr a) (inr b) = omega (arith, a.1, b.1)

module _ (x y : Space) (u v : ℕ) where
  facts : id_mark x u ≢ id_mark y v → name_mark x u ≢ name_mark y v → Parted (first_mark x) (end_mark x) (first_mark y) (end_mark y) → 1 ≤ x.id → 1 ≤ y.id → PairFacts x y
  unfolding id_mark name_mark
  facts i n f lx ly = record {
    frames = go (dec_le (end_mark x) (first_mark y)) (dec_le (end_mark y) (first_mark x));
    ids = λ e. i (yes! _ _ (is_live x lx) ∙ ap (λ k. k % 65536) e ∙ sym (yes! _ _ (is_live y ly)));
    names = λ o e. n (yes! _ _ (is_live x lx) ∙ ap₂ spread_of o e ∙ sym (yes! _ _ (is_live y ly)));
  }
    where
      is_live : (z : Space) → 1 ≤ z.id → live z ≡ true
      is_live z l = ap not (ne_eqb z.id 0 (omega arith))

      go : Dec (end_mark x ≤ first_mark y) → Dec (end_mark y ≤ first_mark x) → (x.first + x.pages ≤ y.first) ⊎ (y.first + y.pages ≤ x.first)
      go (yes p) q = inl (end_first x y p)
      go (no p) (yes q) = inr (end_first y x q)
      go (no p) (no q) = absurd (f (omega arith) (omega arith))

  pub marks_apart : id_mark x u ≢ id_mark y v → name_mark x u ≢ name_mark y v → Parted (first_mark x) (end_mark x) (first_mark y) (end_mark y) → pair_test x y ≡ true
  marks_apart i n f = (pair_decides x y).of (facts i n f)
