-- The first half as a guest meets it: what it is handed. A guest none of whose calls reaches the space can't tell the two runs
-- apart by anything that its calls through the public face give back.
use Rattle.std.specs.Prelude.{ℕ, List, [], ◌∷◌, ◌≡◌, eqb}
use Rattle.lists.specs.Choice.{choose}
use Rattle.model.specs.declared.Answer.{Answer}
use Rattle.model.specs.declared.State.{State}
use Rattle.model.specs.Sound.{Live}
use Rattle.model.specs.Step.{Machine, Ready, Issue, Outcome, step}
use Rattle.model.specs.Tables.{space_at}
use Rattle.isolation.specs.Kept.{Kept}
use Rattle.isolation.specs.Reaches.{Reaches}
use Rattle.isolation.specs.TwoRuns.{OutsideSpace, StoresVaried}

pub record Handed : Type 0 where
  pub answer : Answer
  pub buffer : List ℕ

abbrev pub handed : Outcome → Handed
handed o = record { answer = o.answer; buffer = o.buffer }

-- what the calls of one guest gave back, in their order
unfoldable pub handed_to : (guest : ℕ) → List Issue → List Outcome → List Handed
handed_to g [] os = []
handed_to g (i ∷ is) [] = []
handed_to g (i ∷ is) (o ∷ os) = choose (eqb i.call.caller.guest g) (handed o ∷ handed_to g is os) (handed_to g is os)

-- no call of the guest reaches the space
unfoldable pub Away : (guest id : ℕ) → Machine → List Issue → Type 0
Away g x m [] = Unit {0}
Away g x m (i ∷ is) = (i.call.caller.guest ≡ g → Reaches m i x → ⊥) × Away g x (step m i).machine is

abbrev pub Unseen : Type 0
Unseen =
    (s : State) (scratch₁ scratch₂ : List ℕ) (u guest : ℕ) (first second : List Issue) (os ps : List Outcome)
    → Ready (record { tables = s; scratch = scratch₁ })
    → Live s.spaces u
    → OutsideSpace s u scratch₁ scratch₂
    → StoresVaried (space_at s.spaces u).id (record { tables = s; scratch = scratch₁ }) first second
    → Kept (record { tables = s; scratch = scratch₁ }) first os
    → Kept (record { tables = s; scratch = scratch₂ }) second ps
    → Away guest (space_at s.spaces u).id (record { tables = s; scratch = scratch₁ }) first
    → handed_to guest first os ≡ handed_to guest second ps
