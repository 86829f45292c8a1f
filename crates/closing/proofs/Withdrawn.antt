-- The tables with one space withdrawn, as the model says: isolated, where its owner keeps its entries, or destroyed, where no guest
-- does. Assumes nothing.
use Prim.Native.Nat.{ℕ, ◌/◌, ◌+◌, ◌≤◌, ◌<◌}
use mathlib.Core.Bool.{Bool, true, false, not}
use mathlib.Core.List.{List}
use mathlib.Core.Path.{◌≡◌, refl, sym, ap, fun_ext, ◌∙◌}
use native.Mathlib.Decide.{dec_le}
use native.Mathlib.Omega.{arith}
use lib.Dec.{eqb}
use lib.ListN.{length, set}
use lib.Seq.{set_out}
use borrow.Author.Tests.{eqb-true, ne_eqb}
use Rattle.lists.specs.Choice.{choose, both, either}
use Rattle.lists.specs.Places.{map_places}
use Rattle.lists.proofs.Choice.{no!, both_when, both_comm, both_yes}
use Rattle.lists.proofs.Maps.{map_alike, map_nothing, map_one}
use Rattle.model.specs.declared.Cell.{Cell}
use Rattle.model.specs.declared.Change.TheVariants.{DestroySpace, IsolateSpace}
use Rattle.model.specs.declared.Entry.{Entry}
use Rattle.model.specs.declared.Permit.{Permit}
use Rattle.model.specs.declared.Space.{Space}
use Rattle.model.specs.declared.State.{State}
use Rattle.model.specs.Changes.{revoked, vacated, unpermitted, loses, revoked_all, blanked, withdrawn, applied}
use Rattle.model.specs.Tables.{no_space, space_at, with_spaces, with_permits, with_entries, with_cells}
use Rattle.model.proofs.Withdraw.{none_freed, none_vacated}
use Rattle.model.specs.Leaves.{in_run}
use Rattle.closing.specs.Slot.{loses_slot, slot_closed}
use Rattle.closing.proofs.Freed.{freed_run}

absorbed : (a b : Bool) → either a (both a b) ≡ a
unfolding either both
absorbed true b = refl
absorbed false b = refl

module _ (ss : List Space) (u : ℕ) where
  -- one slot is emptied
  one_vacated : set ss u no_space ≡ vacated (eqb u) ss
  unfolding vacated
  one_vacated = go (dec_le (length ss) u)
    where
      go : Dec (length ss ≤ u) → set ss u no_space ≡ map_places (λ v x. choose (eqb u v) no_space x) ss
      go (yes h) = set_out ss u no_space h ∙ sym (map_alike _ (λ v x. x) ss (λ v x b. no! _ _ (ne_eqb u v (λ z. omega arith))) ∙ map_nothing ss)
      go (no h) = sym (map_one ss u no_space no_space (omega arith))

  -- whose entries are lost: everyone's but the owner's, and everyone's
  owner_keeps : loses_slot (space_at ss u).owner u ≡ loses ss (λ v. false) (eqb u)
  unfolding loses_slot loses either
  owner_keeps = fun_ext (λ h. fun_ext (λ v. both_when (eqb u v) _ _ (λ e. ap (λ k. not (eqb (space_at ss k).owner h)) (eqb-true u v e))))

  all_lose : (h : ℕ) → loses_slot 0 u (h + 1) ≡ loses ss (eqb u) (eqb u) (h + 1)
  unfolding loses_slot loses
  all_lose h = fun_ext (λ v. both_comm (eqb u v) _ ∙ both_yes (eqb u v) (ap not (ne_eqb 0 (h + 1) (λ z. omega arith))) ∙ sym (absorbed (eqb u v) _))

  all_revoked : (es : List Entry) → revoked_all (loses_slot 0 u) es ≡ revoked_all (loses ss (eqb u) (eqb u)) es
  unfolding revoked_all
  all_revoked es = map_alike _ _ es (λ j e b. ap (λ t. revoked t e) (all_lose (j / 30)))

module _ (s : State) (u : ℕ) where
  pub isolated : slot_closed s (space_at s.spaces u).owner u ≡ applied s (IsolateSpace u)
  unfolding withdrawn
  isolated = rw (owner_keeps s.spaces u, none_vacated s.spaces, none_freed s.spaces s.spaces s.cells)

  -- the frames of the space that stood in the slot are blank
  abbrev freed_cells : List Cell
  freed_cells = blanked (in_run (space_at s.spaces u).first (space_at s.spaces u).pages) s.cells

  pub destroyed : u < 32 → with_cells (slot_closed (with_spaces s (set s.spaces u no_space)) 0 u) freed_cells ≡ applied s (DestroySpace u)
  unfolding withdrawn
  destroyed low = rw (all_revoked s.spaces u s.entries, one_vacated s.spaces u, freed_run s.spaces u low)

  -- for search: as the code has made it
  pub isolated_by : (t : State) (g : ℕ) (ps : List Permit) (es : List Entry) → g ≡ (space_at s.spaces u).owner → ps ≡ unpermitted (eqb u) s.permits → es ≡ revoked_all (loses_slot g u) s.entries
      → t ≡ with_entries (with_permits s ps) es → t ≡ applied s (IsolateSpace u)
  isolated_by t g ps es q a b e = e ∙ rw (a, b, q) isolated

  pub destroyed_by : u < 32 → (t : State) (x : Space) (ps : List Permit) (es : List Entry) (cs : List Cell) → x ≡ no_space → ps ≡ unpermitted (eqb u) s.permits → es ≡ revoked_all (loses_slot 0 u) s.entries
      → cs ≡ freed_cells → t ≡ with_cells (with_entries (with_permits (with_spaces s (set s.spaces u x)) ps) es) cs → t ≡ applied s (DestroySpace u)
  destroyed_by low t x ps es cs a b c d e = e ∙ rw (a, b, c, d) (destroyed low)
