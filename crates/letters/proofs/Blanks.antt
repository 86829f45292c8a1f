-- The blanks on the right of a name are found from its end. Assumes nothing.
use Prim.Native.Nat.{ℕ, ◌≤◌}
use mathlib.Core.Bool.{Bool, true, false}
use mathlib.Core.List.{List, [], ◌∷◌, ◌++◌}
use mathlib.Core.Path.{◌≡◌, refl, sym, ap, ◌∙◌}
use native.Mathlib.Omega.{arith}
use lib.Dec.{eqb}
use lib.ListN.{length}
use borrow.Author.Tests.{ne_eqb}
use Rattle.lists.specs.Choice.{choose, both}
use Rattle.lists.proofs.Choice.{no!, both_no, both_not}
use Rattle.lists.proofs.Parts.{no_elements}
use Rattle.model.specs.Names.{blanks, name_bytes}
use Rattle.model.specs.Written.{unpadded}

-- one byte more: a blank changes nothing, any other ends the text
blanks_more : (x : List ℕ) → blanks (x ++ (32 ∷ [])) ≡ blanks x
unfolding blanks both
blanks_more [] = refl
blanks_more (b ∷ x) = ap (both (eqb b 32)) (blanks_more x)

blanks_not : (x : List ℕ) (b : ℕ) → (b ≡ 32 → ⊥) → blanks (x ++ (b ∷ [])) ≡ false
unfolding blanks
blanks_not [] b n = both_no true (ne_eqb b 32 n)
blanks_not (a ∷ x) b n = both_not (eqb a 32) (blanks (x ++ (b ∷ []))) (blanks_not x b n)

unpadded_more : (x : List ℕ) → unpadded (x ++ (32 ∷ [])) ≡ unpadded x
unfolding unpadded blanks both choose
unpadded_more [] = refl
unpadded_more (b ∷ x) =
    ap (λ (t : Bool). choose (both (eqb b 32) t) [] (b ∷ unpadded (x ++ (32 ∷ [])))) (blanks_more x)
    ∙ ap (λ (r : List ℕ). choose (both (eqb b 32) (blanks x)) [] (b ∷ r)) (unpadded_more x)

unpadded_whole : (x : List ℕ) (b : ℕ) → (b ≡ 32 → ⊥) → unpadded (x ++ (b ∷ [])) ≡ x ++ (b ∷ [])
unfolding unpadded
unpadded_whole [] b n = no! _ _ (blanks_not [] b n)
unpadded_whole (a ∷ x) b n = no! _ _ (blanks_not (a ∷ x) b n) ∙ ap (λ (r : List ℕ). a ∷ r) (unpadded_whole x b n)

-- a text is taken apart at its end: u is what stands before the blanks
module _ (l u : List ℕ) (same : unpadded l ≡ u) where
  pub trimmed_found : (x : List ℕ) (b : ℕ) → l ≡ x ++ (b ∷ []) → (b ≡ 32 → ⊥) → l ≡ u
  trimmed_found x b e n = e ∙ sym (unpadded_whole x b n) ∙ ap unpadded (sym e) ∙ same

  pub trimmed_more : (x : List ℕ) (b : ℕ) → l ≡ x ++ (b ∷ []) → b ≡ 32 → unpadded x ≡ u
  trimmed_more x b e z = sym (unpadded_more x) ∙ ap (λ c. unpadded (x ++ (c ∷ []))) (sym z) ∙ ap unpadded (sym e) ∙ same

  pub trimmed_none : length l ≡ 0 → l ≡ u
  unfolding unpadded
  trimmed_none z = let e = no_elements l z in e ∙ sym (ap unpadded e) ∙ same

unpadded_short : (x : List ℕ) → length (unpadded x) ≤ length x
unfolding unpadded choose
unpadded_short [] = omega arith
unpadded_short (b ∷ x) = go (blanks (b ∷ x)) (unpadded_short x)
  where
    go : (t : Bool) → length (unpadded x) ≤ length x → length (choose t [] (b ∷ unpadded x)) ≤ length (b ∷ x)
    go true h = omega arith
    go false h = omega arith

pub name_short : {b r : List ℕ} (n : ℕ) → b ≡ name_bytes n → r ≡ unpadded b → length r ≤ 8
unfolding name_bytes
name_short {b} n e f = omega (arith, unpadded_short b, ap length e, ap length f)
