-- A guest's list by the place of the guest. Assumes nothing.
use Prim.Native.Nat.{ℕ, ◌+◌, ◌-◌, ◌*◌}
use mathlib.Core.List.{List}
use mathlib.Core.Path.{◌≡◌}
use native.Mathlib.Omega.{arith}
use lib.ListN.{get_or}
use Rattle.lists.specs.Places.{lowest, lowest_from}
use Rattle.model.specs.declared.Entry.{Entry}
use Rattle.model.specs.Searches.{free_entry, is_unused}
use Rattle.model.specs.Tables.{unused_entry}

one_back : (p : ℕ) → p + 1 - 1 ≡ p
one_back p = omega arith

none_off : (n : ℕ) → n - 0 ≡ n
none_off n = omega arith

two_back : (k : ℕ) → k + 2 - 2 ≡ k
two_back k = omega arith

-- entry k + 2 of the guest at a place stands k places after the start of its list
pub free_entry_at : (es : List Entry) (place list : ℕ) → free_entry es (place + 1) list ≡ lowest_from (λ k. is_unused (get_or es (place * 30 + k) unused_entry).standing) 0 (list - 0)
unfolding free_entry lowest
free_entry_at es place list = simp (one_back, two_back, none_off)
