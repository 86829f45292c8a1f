-- The tie to the code. Whoever makes a list of calls through the public face, each on the tables and scratch that the one
-- before it returned or left, gets of each what its contract promises: model `Promise` of the model's step. What is claimed of
-- runs is then claimed of what these calls gave back.
use Rattle.std.specs.Prelude.{ℕ, List, [], ◌∷◌}
use Rattle.model.specs.declared.State.{State}
use Rattle.model.specs.Fresh.{fresh}
use Rattle.model.specs.Promise.{Promise}
use Rattle.model.specs.Sound.{Live}
use Rattle.model.specs.Step.{Machine, Ready, Issue, Outcome, step}
use Rattle.model.specs.Tables.{space_at}
use Rattle.isolation.specs.Ground.{Ground}
use Rattle.isolation.specs.History.{recorded}
use Rattle.isolation.specs.Reaches.{Reaches}
use Rattle.isolation.specs.TwoRuns.{OutsideSpace, StoresVaried, AllSameOutside}

-- Every call of a list kept its contract. An `Outcome` is here what a call gave back and left: its answer, tables and scratch,
-- and the buffer.
unfoldable pub Kept : Machine → List Issue → List Outcome → Type 0
Kept m [] [] = Unit {0}
Kept m [] (o ∷ os) = ⊥
Kept m (i ∷ is) [] = ⊥
Kept m (i ∷ is) (o ∷ os) = Promise (step m i) o.answer o.machine.tables o.machine.scratch o.buffer × Kept o.machine is os

-- where the last call left tables and scratch
unfoldable pub left_by : Machine → List Outcome → Machine
left_by m [] = m
left_by m (o ∷ os) = left_by o.machine os

-- The first half, of calls through the public face.
abbrev pub IsolationKept : Type 0
IsolationKept =
    (s : State) (scratch₁ scratch₂ : List ℕ) (u : ℕ) (first second : List Issue) (os ps : List Outcome)
    → Ready (record { tables = s; scratch = scratch₁ })
    → Live s.spaces u
    → OutsideSpace s u scratch₁ scratch₂
    → StoresVaried (space_at s.spaces u).id (record { tables = s; scratch = scratch₁ }) first second
    → Kept (record { tables = s; scratch = scratch₁ }) first os
    → Kept (record { tables = s; scratch = scratch₂ }) second ps
    → AllSameOutside (space_at s.spaces u).id (record { tables = s; scratch = scratch₁ }) first os ps

-- The second half: from what `fresh` gave, whatever call comes next.
abbrev pub GroundedKept : Type 0
GroundedKept =
    (F : ℕ) (scratch : List ℕ) (calls : List Issue) (os : List Outcome) (next : Issue) (id : ℕ)
    → Ready (record { tables = (fresh F).state; scratch = scratch })
    → Kept (record { tables = (fresh F).state; scratch = scratch }) calls os
    → Reaches (left_by (record { tables = (fresh F).state; scratch = scratch }) os) next id
    → Ground (recorded [] (record { tables = (fresh F).state; scratch = scratch }) calls) next id
