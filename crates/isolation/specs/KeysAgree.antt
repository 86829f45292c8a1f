-- Paper 02, M-100: "Demand 3 then reads keys as tables, not as bytes." The first half has all tables equal after each call; here
-- it is said of keys by name.
use Rattle.std.specs.Prelude.{ℕ, List, [], ◌∷◌, ◌≡◌}
use Rattle.model.specs.declared.Caller.{Caller}
use Rattle.model.specs.declared.State.{State}
use Rattle.model.specs.Calls.{access_key}
use Rattle.model.specs.Sound.{Live}
use Rattle.model.specs.Step.{Ready, Issue, Outcome, run}
use Rattle.model.specs.Tables.{space_at}
use Rattle.isolation.specs.TwoRuns.{OutsideSpace, StoresVaried}

-- two outcomes of one call: the key and the mark of every frame are equal, that of the changed space's frames too, and so is
-- every caller's access key
pub record SameKeys (o₁ o₂ : Outcome) : Type 0 where
  pub cells : o₁.machine.tables.cells ≡ o₂.machine.tables.cells
  pub access : (c : Caller) → access_key o₁.machine.tables c ≡ access_key o₂.machine.tables c

-- at every call of the list, by the outcomes of its calls in both runs
unfoldable pub AllSameKeys : (first second : List Outcome) → Type 0
AllSameKeys [] [] = Unit {0}
AllSameKeys [] (p ∷ ps) = ⊥
AllSameKeys (o ∷ os) [] = ⊥
AllSameKeys (o ∷ os) (p ∷ ps) = SameKeys o p × AllSameKeys os ps

-- from the premises of `Isolation`, with no other
abbrev pub KeysAgree : Type 0
KeysAgree =
    (s : State) (scratch₁ scratch₂ : List ℕ) (u : ℕ) (first second : List Issue)
    → Ready (record { tables = s; scratch = scratch₁ })
    → Live s.spaces u
    → OutsideSpace s u scratch₁ scratch₂
    → StoresVaried (space_at s.spaces u).id (record { tables = s; scratch = scratch₁ }) first second
    → AllSameKeys (run (record { tables = s; scratch = scratch₁ }) first) (run (record { tables = s; scratch = scratch₂ }) second)
