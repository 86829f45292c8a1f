-- What the library's `position` and `count` give of a table is what the model's search and count over its places give. Assumes
-- nothing.
use Prim.Native.Nat.{ℕ, zero, suc, ◌+◌, ◌≤◌, ◌<◌}
use mathlib.Core.Bool.{Bool, true, false, not, cond}
use mathlib.Core.List.{List}
use mathlib.Core.Path.{◌≡◌, refl, sym, ap, subst, ◌∙◌}
use native.Mathlib.Omega.{arith}
use lib.Dec.{ltb}
use borrow.Author.Tests.{lt-ltb, le-ltb, ltb-true, ltb-false}
use lib.ListN.{length, get_or, take}
use lib.Seq.{take-length}
use Rattle.std.proofs.Common.{add-one}
use Rattle.std.specs.Prelude.{Option, Some, None, is_some, position, count_by}
use Rattle.std.specs.List.{position_or_len}
use Rattle.std.proofs.lemmas.List.Sums.{position_or_len_is, count_by_more_no, count_by_more_yes}
use Rattle.lists.specs.Choice.{choose}
use Rattle.lists.specs.Places.{lowest, count}
use Rattle.lists.proofs.Choice.{true_false, yes!, no!, choose_elim}
use Rattle.lists.proofs.Places.{lowest_le, lowest_holds, lowest_least}
use Rattle.lists.proofs.Counts.{count_zero, count_yes, count_no}
use Rattle.model.specs.declared.Space.{Space}
use Rattle.model.specs.Searches.{is_space, is_named, is_data, slot_of, slot_named, free_slot, data_spaces}
use Rattle.model.specs.Tables.{no_space, live}
use Rattle.lookup.specs.Found.{found}

chosen : {A : Type 0} (b : Bool) (x y : A) → cond b x y ≡ choose b x y
unfolding choose
chosen true x y = refl
chosen false x y = refl

module _ {A : Type 0} (p : A → Bool) (d : A) (xs : List A) (n : ℕ) (len : length xs ≡ n) where
  at : ℕ → Bool
  at k = p (get_or xs k d)

  first_is : position_or_len p xs ≡ lowest at (length xs)
  unfolding at
  first_is = position_or_len_is p xs (lowest at (length xs)) d (lowest_le at (length xs)) (lowest_least at (length xs)) (lowest_holds at (length xs))

  position_found : position p xs ≡ found n (lowest at n)
  unfolding found
  position_found = chosen _ _ _ ∙ ap (λ k. choose (ltb k (length xs)) (Some k) None) first_is ∙ ap (λ m. found m (lowest at m)) len

  counted : (k : ℕ) → k ≤ length xs → count_by p (take k xs) ≡ count at k
  unfolding at
  counted zero h = sym (count_zero at)
  counted (suc k) h = rw (← add-one k) (go (at k) refl (counted k (omega arith)))
    where
      lt : k < length xs
      lt = omega arith

      go : (b : Bool) → at k ≡ b → count_by p (take k xs) ≡ count at k → count_by p (take (k + 1) xs) ≡ count at (k + 1)
      go true t e = count_by_more_yes p xs k d lt t ∙ ap (λ m. m + 1) e ∙ sym (count_yes at k t)
      go false t e = count_by_more_no p xs k d lt t ∙ e ∙ sym (count_no at k t)

  all_counted : count_by p xs ≡ count at n
  all_counted = ap (count_by p) (sym (take-length xs)) ∙ counted (length xs) (omega arith) ∙ ap (count at) len

-- For search: what was found, and what it tells.
module _ (n k : ℕ) where
  pub found_below : (u : ℕ) → u ≡ k → u < n → Some u ≡ found n k
  unfolding found
  found_below u e l = rw e (sym (yes! _ _ (lt-ltb k n (rw e at l))))

  pub found_end : (u : ℕ) → u ≡ k → n ≤ u → None ≡ found n k
  unfolding found
  found_end u e h = sym (no! _ _ (le-ltb k n (rw e at h)))

  Tells : Option ℕ → Type 0
  Tells (Some u) = (u ≡ k) × (u < n)
  Tells None = n ≤ k

  tells : Tells (found n k)
  unfolding found Tells
  tells = choose_elim Tells (ltb k n) (Some k) None (λ l. (refl, ltb-true k n l)) (λ h. ltb-false k n h)

  module _ (r : Option ℕ) (e : r ≡ found n k) where
    told : (o : Option ℕ) → r ≡ o → Tells o
    told o is = subst Tells (sym e ∙ is) tells

    pub found_is : (u : ℕ) → r ≡ Some u → u ≡ k
    unfolding Tells
    found_is u is = (told (Some u) is).0

    pub found_low : (u : ℕ) → r ≡ Some u → u < n
    unfolding Tells
    found_low u is = (told (Some u) is).1

    pub found_none : r ≡ None → n ≤ k
    unfolding Tells
    found_none is = told None is

    pub found_some : is_some r ≡ true → k < n
    found_some y = go r refl y
      where
        go : (o : Option ℕ) → r ≡ o → is_some o ≡ true → k < n
        go (Some u) is t = rw (← found_is u is) (found_low u is)
        go None is t = true_false t refl

    pub found_not : is_some r ≡ false → n ≤ k
    found_not y = go r refl y
      where
        go : (o : Option ℕ) → r ≡ o → is_some o ≡ false → n ≤ k
        go (Some u) is t = true_false refl t
        go None is t = found_none is

-- for search: what each search of a table of spaces gives
module _ (ss : List Space) (len : length ss ≡ 32) where
  pub space_found : (i : ℕ) (r : Option ℕ) → r ≡ position (is_space i) ss → r ≡ found 32 (slot_of ss i)
  unfolding slot_of at
  space_found i r e = e ∙ position_found (is_space i) no_space ss 32 len

  pub named_found : (g m : ℕ) (r : Option ℕ) → r ≡ position (is_named g m) ss → r ≡ found 32 (slot_named ss g m)
  unfolding slot_named at
  named_found g m r e = e ∙ position_found (is_named g m) no_space ss 32 len

  pub free_found : (r : Option ℕ) → r ≡ position (λ x. not (live x)) ss → r ≡ found 32 (free_slot ss)
  unfolding free_slot at
  free_found r e = e ∙ position_found (λ x. not (live x)) no_space ss 32 len

  pub data_counted : (g k : ℕ) → k ≡ count_by (is_data g) ss → k ≡ data_spaces ss g
  unfolding data_spaces at
  data_counted g k e = e ∙ all_counted (is_data g) no_space ss 32 len
