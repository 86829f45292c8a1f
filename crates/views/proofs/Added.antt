-- The entry that ADD takes, as it has seen it. Assumes nothing.
use Prim.Native.Nat.{ℕ, min, ◌+◌, ◌-◌, ◌*◌, ◌≤◌, ◌<◌}
use mathlib.Core.Bool.{true}
use mathlib.Core.Path.{◌≡◌, sym, ap, ap₂, ◌∙◌}
use native.Mathlib.Omega.{arith}
use lib.ListN.{get_or}
use borrow.Author.Tests.{lt-ltb}
use Rattle.lists.specs.Choice.{choose}
use Rattle.lists.specs.Places.{lowest, lowest_from}
use Rattle.lists.proofs.Choice.{yes! }
use Rattle.lookup.specs.Rows.{row_of}
use Rattle.lookup.proofs.Lists.{free_entry_at}
use Rattle.model.specs.declared.Operation.TheVariants.{Add}
use Rattle.model.specs.declared.Right.{Right}
use Rattle.model.specs.declared.State.{State}
use Rattle.model.specs.Searches.{may_take, free_entry}
use Rattle.model.specs.SoundTest.{sound}
use Rattle.model.specs.Tables.{no_guest, unused_entry, guest_at, guest_place, entry_at}
use Rattle.model.proofs.SoundTest.{sound_decides}
use Rattle.views.specs.declared.View.{View}
use Rattle.asks.specs.Asks.{asks_by}
use Rattle.views.specs.Taking.{free_for, listed, free_place}
use Rattle.views.specs.Views.{view_of}
use Rattle.views.proofs.Judged.{seen_enrolled, place_own, row_own, seen_caller}

module _ (s : State) (g i : ℕ) (r : Right) (v : View) (e : v ≡ view_of s (asks_by g (Add i r))) (l : v.place < 8) where
  row : row_of g ≡ guest_place g
  unfolding asks_by
  row = row_own s g (Add i r) v e l

  -- where it looks through the whole list
  module _ (ok : sound s ≡ true) where
    abbrev list : ℕ
    list = (guest_at s.guests g).list

    high : list ≤ 30
    high = ((sound_decides s).to ok).guests.list_high g (seen_enrolled s g (Add i r) v e l)

    pub add_free : v.free ≡ free_entry s.entries g list
    unfolding view_of asks_by free_for choose lowest
    add_free =
        let whole : min list 30 ≡ list - 0 = omega (arith, high) in
        let own : v.place + 1 ≡ g = seen_caller s g (Add i r) v e l in
        ap (λ (x : View). x.free) e
        ∙ ap (λ k. free_for true (get_or s.guests k no_guest).list s.entries k) row
        ∙ ap (λ n. lowest_from (λ k. may_take (listed s.entries (guest_place g) k).standing) 0 n) whole
        ∙ ap (λ p. lowest_from (λ k. may_take (listed s.entries p k).standing) 0 (list - 0)) (sym (place_own s g (Add i r) v e l))
        ∙ sym (free_entry_at s.entries v.place list)
        ∙ ap (λ h. free_entry s.entries h list) own

    pub add_unused : v.free < 30 → v.unused ≡ entry_at s.entries g (free_entry s.entries g list + 2)
    unfolding view_of asks_by free_place
    add_unused low =
        let free : v.free ≡ _ = ap (λ (x : View). x.free) e in
        ap (λ (x : View). x.unused) e
        ∙ ap₂ (λ p k. get_or s.entries (free_place p k) unused_entry) row (sym free)
        ∙ ap (λ k. get_or s.entries k unused_entry) (yes! _ _ (lt-ltb v.free 30 low))
        ∙ ap (λ k. get_or s.entries (guest_place g * 30 + k) unused_entry) add_free
        ∙ ap (λ k. get_or s.entries (guest_place g * 30 + k) unused_entry) back
      where
        back : free_entry s.entries g list ≡ free_entry s.entries g list + 2 - 2
        back = omega arith
