-- The space that a call names, and the permit that it looks at, as it has seen them. Assumes nothing.
use Prim.Native.Nat.{ℕ, ◌+◌, ◌*◌, ◌<◌}
use mathlib.Core.Path.{◌≡◌, refl, ap, ◌∙◌}
use Rattle.std.specs.Prelude.{Some}
use lib.ListN.{get_or}
use borrow.Author.Tests.{lt-ltb}
use Rattle.lists.proofs.Choice.{yes! }
use Rattle.lookup.specs.Rows.{row_of, slot_row}
use Rattle.lookup.proofs.Rows.{row_place}
use Rattle.model.specs.declared.Right.{Right}
use Rattle.model.specs.declared.State.{State}
use Rattle.model.specs.declared.Operation.{Operation}
use Rattle.model.specs.declared.Operation.TheVariants.{Permit, Isolate, Query, Add, Block}
use Rattle.model.specs.Leaves.{caller_place}
use Rattle.model.specs.Searches.{slot_of, slot_named}
use Rattle.model.specs.Tables.{no_permit, space_at}
use Rattle.asks.specs.declared.Asks.{Asks}
use Rattle.asks.specs.declared.Sought.TheVariants.{Id}
use Rattle.asks.specs.declared.Uses.TheVariants.{Token}
use Rattle.views.specs.declared.View.{View}
use Rattle.asks.specs.Asks.{asks_by}
use Rattle.views.specs.Search.{slot_using, slot_sought}
use Rattle.views.specs.Views.{view_of}

-- what stands in the slot that was seen
module _ (s : State) (a : Asks) (v : View) (e : v ≡ view_of s a) where
  pub space_row : v.space ≡ space_at s.spaces (slot_row v.slot)
  unfolding view_of
  space_row = rw e refl

  row_slot : v.slot < 32 → slot_row v.slot ≡ v.slot
  unfolding slot_row
  row_slot l = yes! _ _ (lt-ltb v.slot 32 l)

  pub space_slot : v.slot < 32 → v.space ≡ space_at s.spaces v.slot
  space_slot l = space_row ∙ ap (space_at s.spaces) (row_slot l)

  pub permit_slot_lem : v.slot < 32 → v.permit ≡ get_or s.permits (v.slot * 8 + row_of a.other) no_permit
  unfolding view_of
  permit_slot_lem l = permit_row ∙ ap (λ k. get_or s.permits (k * 8 + row_of a.other) no_permit) (row_slot l)
    where
      permit_row : v.permit ≡ get_or s.permits (slot_row v.slot * 8 + row_of a.other) no_permit
      permit_row = rw e refl

-- by identification, for every call that names its space so; and by owner and name
id_finds : (s : State) (a : Asks) (i : ℕ) (v : View) → a.uses ≡ Token 0 → a.sought ≡ Some (Id i) → v ≡ view_of s a → v.slot ≡ slot_of s.spaces i
unfolding view_of slot_using slot_sought
id_finds s a i v plain named e = ap (λ (x : View). x.slot) e ∙ rw (plain, named) refl

module _ (s : State) (g i : ℕ) (v : View) where
  abbrev Finds : Operation → Type 0
  Finds k = v ≡ view_of s (asks_by g k) → v.slot ≡ slot_of s.spaces i

  pub permit_finds : (h : ℕ) (r : Right) → Finds (Permit i h r)
  unfolding asks_by
  permit_finds h r e = id_finds s _ i v refl refl e

  pub isolate_finds : Finds (Isolate i)
  unfolding asks_by
  isolate_finds e = id_finds s _ i v refl refl e

  pub add_finds : (r : Right) → Finds (Add i r)
  unfolding asks_by
  add_finds r e = id_finds s _ i v refl refl e

  pub block_finds : (a k m : ℕ) → Finds (Block i a k m)
  unfolding asks_by
  block_finds a k m e = id_finds s _ i v refl refl e

pub query_finds : (s : State) (g o n : ℕ) (v : View) → v ≡ view_of s (asks_by g (Query o n)) → v.slot ≡ slot_named s.spaces o n
unfolding view_of asks_by slot_using slot_sought
query_finds s g o n v e = ap (λ (x : View). x.slot) e

-- PERMIT's other guest
pub permit_other : (s : State) (g i h : ℕ) (r : Right) (v : View) → v ≡ view_of s (asks_by g (Permit i h r)) → v.other ≡ caller_place s.guests h
unfolding view_of asks_by
permit_other s g i h r v e = ap (λ (x : View). x.other) e ∙ row_place s.guests h
