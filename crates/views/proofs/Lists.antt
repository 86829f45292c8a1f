-- The lowest entry of a list that may be taken. Assumes nothing.
use Prim.Native.Nat.{ℕ, min, ◌+◌, ◌-◌, ◌*◌, ◌≤◌, ◌<◌}
use mathlib.Core.Bool.{Bool, true, false, cond}
use mathlib.Core.List.{List}
use mathlib.Core.Path.{◌≡◌, refl, sym, ap, ◌∙◌}
use native.Mathlib.Omega.{arith}
use lib.Dec.{ltb}
use lib.ListN.{length, get_or, drop}
use Rattle.std.proofs.lemmas.List.{length-take-le, length-drop, get_or-take, get_or-drop}
use borrow.Author.Tests.{ltb-false}
use Rattle.lists.proofs.Choice.{yes!, no! }
use Rattle.std.specs.Prelude.{Option, Some, None, position, slice_range}
use Rattle.std.specs.List.{position_or_len}
use Rattle.std.specs.Option.{unwrap_or}
use Rattle.std.proofs.lemmas.List.Sums.{position_or_len_is}
use Rattle.lists.specs.Places.{lowest}
use Rattle.lists.proofs.Places.{lowest_le, lowest_holds, lowest_least}
use Rattle.model.specs.declared.Entry.{Entry}
use Rattle.model.specs.Searches.{may_take}
use Rattle.model.specs.Tables.{unused_entry}
use Rattle.views.specs.Taking.{free_for, listed}

abbrev pub takes : Entry → Bool
takes e = may_take e.standing

-- the first n entries of the list in a row
abbrev pub own_entries : List Entry → (row n : ℕ) → List Entry
own_entries es row n = slice_range es (row * 30) (row * 30 + n)

module _ (es : List Entry) (row n : ℕ) (inside : row * 30 + n ≤ length es) where
  abbrev own : List Entry
  own = own_entries es row n

  size : row * 30 + n - row * 30 ≡ n
  size = omega arith

  own_length : length own ≡ n
  own_length = length-take-le (row * 30 + n - row * 30) (drop (row * 30) es) (omega (arith, inside, size, length-drop (row * 30) es)) ∙ size

  at : (k : ℕ) → k < n → takes (get_or own k unused_entry) ≡ takes (listed es row k)
  at k l = ap takes (get_or-take (row * 30 + n - row * 30) (drop (row * 30) es) k unused_entry (omega (arith, l, size)) ∙ get_or-drop (row * 30) es k unused_entry)

  first : position_or_len takes own ≡ lowest (λ k. takes (listed es row k)) n
  first =
      position_or_len_is takes own (lowest (λ k. takes (listed es row k)) n) unused_entry (omega (arith, own_length, lowest_le (λ k. takes (listed es row k)) n))
      (λ k l. at k (omega (arith, l, lowest_le (λ k. takes (listed es row k)) n)) ∙ lowest_least (λ k. takes (listed es row k)) n k l)
      (λ l. at _ (omega (arith, l, own_length)) ∙ lowest_holds (λ k. takes (listed es row k)) n (omega (arith, l, own_length)))

  pub free_found : (o : Option ℕ) → o ≡ position takes own → unwrap_or o n ≡ lowest (λ k. takes (listed es row k)) n
  free_found o e = rw e (go (ltb (position_or_len takes own) (length own)) refl)
    where
      go : (b : Bool) → ltb (position_or_len takes own) (length own) ≡ b → unwrap_or (cond b (Some (position_or_len takes own)) None) n ≡ lowest (λ k. takes (listed es row k)) n
      go true t = first
      go false t = let m = ltb-false _ _ t in omega (arith, m, own_length, first, lowest_le (λ k. takes (listed es row k)) n)

-- for search: whether a call takes one
module _ (t : Bool) (l : ℕ) (es : List Entry) (row : ℕ) where
  pub takes_none : t ≡ false → 0 ≡ free_for t l es row
  unfolding free_for
  takes_none h = sym (no! _ _ h)

  pub taken : (o : Option ℕ) (n k : ℕ) → t ≡ true → n ≡ min l 30 → row < 8 → length es ≡ 240 → o ≡ position takes (own_entries es row n) → k ≡ unwrap_or o (length (own_entries es row n)) → k ≡ free_for t l es row
  unfolding free_for
  taken o n k h m r len p is =
      let inside : row * 30 + n ≤ length es = omega (arith, m, r, len) in
      is
      ∙ ap (unwrap_or o) (own_length es row n inside)
      ∙ free_found es row n inside o p
      ∙ ap (λ x. lowest (λ j. takes (listed es row j)) x) m
      ∙ sym (yes! _ _ h)
