-- The letters of a word begin behind the first byte that is not 0. Assumes nothing.
use Prim.Native.Nat.{ℕ, suc, ◌+◌, ◌-◌, ◌≤◌}
use mathlib.Core.Bool.{Bool, true, false, cond, not}
use mathlib.Core.List.{List, [], ◌∷◌}
use mathlib.Core.Path.{◌≡◌, refl, sym, ap, ◌∙◌}
use native.Mathlib.Omega.{arith}
use lib.Dec.{eqb}
use lib.ListN.{length, drop, take, length-drop, drop_of_length-le}
use lib.Seq.{take_all}
use Rattle.std.specs.List.{position, position_or_len}
use Rattle.std.proofs.Common.{Some, None, nat_lt}
use Rattle.std.proofs.lemmas.Bool.{ltb-false}
use Rattle.lists.specs.Choice.{choose}
use Rattle.model.specs.Names.{name_bytes}
use Rattle.letters.specs.Words.{after_first}

abbrev pub is_set : ℕ → Bool
is_set b = not (eqb b 0)

behind : (l : List ℕ) → drop (position_or_len is_set l + 1) l ≡ after_first l
unfolding after_first choose
behind [] = refl
behind (b ∷ l) = go (eqb b 0) (behind l)
  where
    go : (z : Bool) → drop (position_or_len is_set l + 1) l ≡ after_first l
        → drop (cond (not (not z)) (1 + position_or_len is_set l) 0 + 1) (b ∷ l) ≡ choose z (after_first l) l
    go true e = let q : 1 + position_or_len is_set l + 1 ≡ suc (position_or_len is_set l + 1) = omega arith in rw q e
    go false e = refl

pub letters_behind : (l : List ℕ) (i : ℕ) → position is_set l ≡ Some i → take (length l - (i + 1)) (drop (i + 1) l) ≡ after_first l
letters_behind l i e = go (nat_lt (position_or_len is_set l) (length l)) e
  where
    go : (t : Bool) → cond t (Some (position_or_len is_set l)) None ≡ Some i → take (length l - (i + 1)) (drop (i + 1) l) ≡ after_first l
    go true e =
        let q : position_or_len is_set l ≡ i = cc in
        take_all (length l - (i + 1)) (drop (i + 1) l) (omega (arith, length-drop (i + 1) l)) ∙ ap (λ k. drop (k + 1) l) (sym q) ∙ behind l
    go false e = absurd (cc)

pub no_letters : (l : List ℕ) → position is_set l ≡ None → [] ≡ after_first l
no_letters l e = go (nat_lt (position_or_len is_set l) (length l)) refl e
  where
    go : (t : Bool) → nat_lt (position_or_len is_set l) (length l) ≡ t → cond t (Some (position_or_len is_set l)) None ≡ None → [] ≡ after_first l
    go true h e = absurd (cc)
    go false h e = sym (drop_of_length-le l {i = position_or_len is_set l + 1} (omega (arith, ltb-false _ _ h))) ∙ behind l

pub letters_short : {b r : List ℕ} (n : ℕ) → b ≡ name_bytes n → r ≡ after_first b → length r ≤ 8
unfolding name_bytes
letters_short {b} n e f = omega (arith, length-drop (position_or_len is_set b + 1) b, ap length (behind b), ap length e, ap length f)
