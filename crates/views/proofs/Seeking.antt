-- The checks 5 and 6 of a call that names its space by an identification, by what it has seen: PERMIT, ISOLATE and BLOCK. Assumes
-- nothing.
use Prim.Native.Nat.{ℕ, ◌+◌, ◌<◌}
use mathlib.Core.Path.{◌≡◌, sym, ap₂, subst, ◌∙◌}
use lib.Dec.{ltb, eqb}
use borrow.Author.Tests.{ltb-true}
use Rattle.std.specs.Prelude.{Result, Ok, Err}
use Rattle.lists.proofs.Choice.{choose_elim}
use Rattle.model.specs.declared.Answer.{Answer}
use Rattle.model.specs.declared.Caller.{Caller}
use Rattle.model.specs.declared.Operation.{Operation}
use Rattle.model.specs.declared.Space.{Space}
use Rattle.model.specs.declared.State.{State}
use Rattle.model.specs.Calls.{judge, owning}
use Rattle.model.specs.Decision.{Decision, refuse}
use Rattle.model.specs.Replies.{call_of}
use Rattle.model.specs.Searches.{slot_of}
use Rattle.lookup.specs.Owned.{owned_at, owned_space}
use Rattle.lookup.proofs.Owning.{owned_row, owned_slot, owning_passes, owning_stops}
use Rattle.views.specs.declared.View.{View}
use Rattle.asks.specs.Asks.{asks_by}
use Rattle.views.specs.Views.{view_of}
use Rattle.views.proofs.Judged.{seen_caller}
use Rattle.views.proofs.Looked.{space_row}

-- the slot of a space that a guest owns is one of the table
module _ (u k g : ℕ) (x : Space) (o : Result ℕ Answer) (is : o ≡ owned_at k x g) (e : o ≡ Ok u) where
  Small : Result ℕ Answer → Type 0
  Small (Ok w) = w < 32
  Small (Err a) = Unit {0}

  small : Small (owned_at k x g)
  unfolding owned_at Small
  small = choose_elim Small (ltb k 32) _ _ (λ h. choose_elim Small (eqb x.owner g) _ _ (λ _. ltb-true k 32 h) (λ _. tt)) (λ _. tt)

  pub slot_low : u < 32
  unfolding Small
  slot_low = subst Small (sym is ∙ e) small

-- what the call k of a caller sees of a state
abbrev pub Shows : View → Operation → State → Caller → Type 0
Shows v k s c = v ≡ view_of s (asks_by c.guest k)

-- The checks 5 and 6, for any call that seeks the space of an identification.
module _ (v : View) (k : Operation) (i : ℕ) (l : v.place < 8) (o : Result ℕ Answer) (is : o ≡ owned_at v.slot v.space (v.place + 1)) where
  -- it finds the slot, and these checks come before what else it decides
  pub record Seeks (d : State → Caller → Decision) : Type 0 where
    pub finds : (s : State) (c : Caller) → Shows v k s c → v.slot ≡ slot_of s.spaces i
    pub judged : (s : State) (c : Caller) → Shows v k s c → judge s (call_of c k) 0 ≡ owning s c.guest (slot_of s.spaces i) (d s c)

  module _ (d : State → Caller → Decision) (f : Seeks d) where
    owned_is : (s : State) (c : Caller) → Shows v k s c → o ≡ owned_space s.spaces c.guest i
    owned_is s c e =
        owned_row s.spaces v.slot (slot_of s.spaces i) c.guest o (f.finds s c e)
        (is ∙ ap₂ (owned_at v.slot) (space_row s (asks_by c.guest k) v e) (seen_caller s c.guest k v e l))

    pub stops : (a : Answer) → o ≡ Err a → (s : State) (c : Caller) → Shows v k s c → judge s (call_of c k) 0 ≡ refuse a
    stops a q s c e = f.judged s c e ∙ owning_stops s c.guest i o (owned_is s c e) _ a q

    module _ (u : ℕ) (q : o ≡ Ok u) where
      pub slot_is : (s : State) (c : Caller) → Shows v k s c → u ≡ slot_of s.spaces i
      slot_is s c e = owned_slot s.spaces c.guest i o u (owned_is s c e) q

      pub goes_on : (s : State) (c : Caller) → Shows v k s c → judge s (call_of c k) 0 ≡ d s c
      goes_on s c e = f.judged s c e ∙ owning_passes s c.guest i o (owned_is s c e) _ u q
