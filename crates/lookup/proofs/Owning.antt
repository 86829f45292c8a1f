-- What `owned_space` answered decides the model's checks 5 and 6, whatever follows them. Assumes nothing.
use Prim.Native.Nat.{ℕ, ◌≤◌, ◌<◌}
use mathlib.Core.List.{List}
use mathlib.Core.Path.{◌≡◌, refl, sym, ap, subst, ◌∙◌}
use lib.Dec.{eqb, ltb}
use borrow.Author.Tests.{ltb-true, le-ltb}
use Rattle.std.specs.Prelude.{Result, Ok, Err}
use Rattle.lists.specs.Choice.{choose}
use Rattle.lists.proofs.Choice.{yes!, no!, choose_elim, choose_eq}
use Rattle.model.specs.declared.Answer.{Answer}
use Rattle.model.specs.declared.Answer.TheVariants.{NoSpace, NotOwner}
use Rattle.model.specs.declared.Reply.{Reply}
use Rattle.model.specs.declared.Space.{Space}
use Rattle.model.specs.declared.State.{State}
use Rattle.model.specs.Calls.{owning}
use Rattle.model.specs.Decision.{Decision, refuse, check}
use Rattle.model.specs.Replies.{reply, Carried}
use Rattle.model.specs.Searches.{slot_of}
use Rattle.model.specs.Tables.{space_at}
use Rattle.model.proofs.Rules.{check_yes, check_no, refused}
use Rattle.lookup.specs.Owned.{owned_at, owned_space}
use Rattle.lookup.specs.Rows.{slot_row}

-- a decision that follows the checks, for the space with identification i
abbrev checked : List Space → (g i : ℕ) → Decision → Decision
checked ss g i d = check (ltb (slot_of ss i) 32) NoSpace (check (eqb (space_at ss (slot_of ss i)).owner g) NotOwner d)

record Owns (ss : List Space) (g i u : ℕ) : Type 0 where
  slot : u ≡ slot_of ss i
  low : u < 32
  passes : (d : Decision) → checked ss g i d ≡ d

module _ (ss : List Space) (g i : ℕ) where
  Told : Result ℕ Answer → Type 0
  Told (Ok u) = Owns ss g i u
  Told (Err a) = (d : Decision) → checked ss g i d ≡ refuse a

  told : Told (owned_space ss g i)
  unfolding owned_at Told
  told =
      choose_elim Told (ltb (slot_of ss i) 32) _ _
      (λ l. choose_elim Told (eqb (space_at ss (slot_of ss i)).owner g) _ _
      (λ m. record { slot = refl; low = ltb-true _ 32 l; passes = λ d. check_yes _ _ l ∙ check_yes _ _ m })
      (λ m d. check_yes _ _ l ∙ check_no _ _ m))
      (λ l d. check_no _ _ l)

  module _ (o : Result ℕ Answer) (u : ℕ) (is : o ≡ owned_space ss g i) (e : o ≡ Ok u) where
    owns : Owns ss g i u
    unfolding Told
    owns = subst Told (sym is ∙ e) told

    pub owned_slot : u ≡ slot_of ss i
    owned_slot = owns.slot

    pub owned_low : u < 32
    owned_low = owns.low

-- what stands in the row of a slot is what stands in the slot, where there is one
pub owned_row : (ss : List Space) (u x g : ℕ) (r : Result ℕ Answer) → u ≡ x → r ≡ owned_at u (space_at ss (slot_row u)) g → r ≡ owned_at x (space_at ss x) g
unfolding owned_at slot_row
owned_row ss u x g r e p =
    rw (← e) (p ∙ choose_eq (ltb u 32) (λ l. ap (λ k. choose (eqb (space_at ss k).owner g) (Ok u) (Err NotOwner)) (yes! u 0 l)) (λ _. refl))

-- by what a search has found
pub owned_found : (ss : List Space) (u g i : ℕ) (r : Result ℕ Answer) → u ≡ slot_of ss i → r ≡ owned_at u (space_at ss u) g → r ≡ owned_space ss g i
owned_found ss u g i r e p = p ∙ ap (λ k. owned_at k (space_at ss k) g) e

pub owned_none : (ss : List Space) (g i : ℕ) → 32 ≤ slot_of ss i → Err NoSpace ≡ owned_space ss g i
unfolding owned_at
owned_none ss g i h = sym (no! _ _ (le-ltb (slot_of ss i) 32 h))

-- what follows the checks
module _ (s : State) (g i : ℕ) (o : Result ℕ Answer) (is : o ≡ owned_space s.spaces g i) (d : Decision) where
  pub owning_passes : (u : ℕ) → o ≡ Ok u → owning s g (slot_of s.spaces i) d ≡ d
  unfolding owning
  owning_passes u e = (owns s.spaces g i o u is e).passes d

  pub owning_stops : (a : Answer) → o ≡ Err a → owning s g (slot_of s.spaces i) d ≡ refuse a
  unfolding owning Told
  owning_stops a e = subst (Told s.spaces g i) (sym is ∙ e) (told s.spaces g i) d

-- for search: a call is refused, or goes on
module _ (s : State) (g i : ℕ) (o : Result ℕ Answer) (is : o ≡ owned_space s.spaces g i) (d : Decision) (m : List ℕ) where
  pub owning_refused : (a : Answer) → o ≡ Err a → Carried s (owning s g (slot_of s.spaces i) d) (reply a s) m m
  owning_refused a e = refused s _ a m (owning_stops s g i o is d a e)

  pub owning_goes : (u : ℕ) (r : Reply) (m' : List ℕ) → o ≡ Ok u → Carried s d r m m' → Carried s (owning s g (slot_of s.spaces i) d) r m m'
  owning_goes u r m' e p = rw (owning_passes s g i o is d u e) p

pub ruleset settling = (owning_refused, owning_goes)
