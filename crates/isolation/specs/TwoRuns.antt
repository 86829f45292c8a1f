-- Demand 3's first half, "one claim about the whole list": two runs of it, which differ in the bytes of one space and in the data
-- of stores that reach it. First the general claim, for a set of changed spaces that may grow from call to call, and for frames that
-- may differ as long as they are free; then the paper's own, for one space and no such frames.
use Rattle.std.specs.Prelude.{ℕ, ◌/◌, ◌<◌, Bool, true, false, List, [], ◌∷◌, ◌≢◌, ◌≡◌, length, get_or}
use Rattle.model.specs.declared.State.{State}
use Rattle.model.specs.Answers.{number, value}
use Rattle.model.specs.Classes.{is_store}
use Rattle.model.specs.Frames.{layout, place_of, size_of, bytes_of, frame_bytes}
use Rattle.model.specs.Sizes.{frame_size}
use Rattle.model.specs.Sound.{Live, HasFrame, FreeIn}
use Rattle.model.specs.Step.{Machine, Ready, Issue, Outcome, step, run}
use Rattle.model.specs.Tables.{space_at}
use Rattle.isolation.specs.Reaches.{Reaches, ReachesIn}

-- No live space of the set X has the frame f, and if f is free it is none of the frames L.
pub record Outside (X L : ℕ → Bool) (s : State) (f : ℕ) : Type 0 where
  pub live : (u : ℕ) → Live s.spaces u → X (space_at s.spaces u).id ≡ true → HasFrame (layout s) s.spaces u f → ⊥
  pub free : FreeIn s f → L f ≡ false

-- scratch is equal at every place outside the live spaces of X, in free frames too but for those of L
abbrev pub EqualOutside : (X L : ℕ → Bool) → State → (scratch₁ scratch₂ : List ℕ) → Type 0
EqualOutside X L s m₁ m₂ = (p : ℕ) → Outside X L s (p / frame_size) → get_or m₁ p 0 ≡ get_or m₂ p 0

-- two machines that differ in the bytes of live changed spaces, and of frames of L that are free, and in nothing else
pub record Alike (X L : ℕ → Bool) (m₁ m₂ : Machine) : Type 0 where
  pub tables : m₁.tables ≡ m₂.tables
  pub room : length m₁.scratch ≡ length m₂.scratch
  pub bytes : EqualOutside X L m₁.tables m₁.scratch m₂.scratch

-- one call in both runs, with the spaces that count as changed from it on
pub record Turn : Type 0 where
  pub first : Issue
  pub second : Issue
  pub changed : ℕ → Bool

-- the second run has the same calls; lengths are kept; buffers differ only where the first run's call reaches a changed space
pub record MayDiffer (X : ℕ → Bool) (m : Machine) (i j : Issue) : Type 0 where
  pub call : i.call ≡ j.call
  pub lengths : length i.buffer ≡ length j.buffer
  pub same : (ReachesIn X m i → ⊥) → i.buffer ≡ j.buffer

abbrev pub Grows : (X Y : ℕ → Bool) → Type 0
Grows X Y = (id : ℕ) → X id ≡ true → Y id ≡ true

unfoldable pub Varied : (ℕ → Bool) → Machine → List Turn → Type 0
Varied X m [] = Unit {0}
Varied X m (t ∷ ts) = Grows X t.changed × MayDiffer t.changed m t.first t.second × Varied t.changed (step m t.first).machine ts

-- "In both runs a call returns the same; equal after it are the tables, the bytes of each live space but that one, and a
-- fetch's buffer unless that fetch reaches that space." A call returns an answer, with the number and value that the
-- paper speaks of.
pub record SameCall (X L : ℕ → Bool) (m₁ m₂ : Machine) (i j : Issue) : Type 0 where
  pub number : number (step m₁ i).answer ≡ number (step m₂ j).answer
  pub value : value (step m₁ i).answer ≡ value (step m₂ j).answer
  pub answer : (step m₁ i).answer ≡ (step m₂ j).answer
  pub alike : Alike X L (step m₁ i).machine (step m₂ j).machine
  pub buffer : (ReachesIn X m₁ i → ⊥) → (step m₁ i).buffer ≡ (step m₂ j).buffer

-- at every call of the list
unfoldable pub SameRuns : (L : ℕ → Bool) → Machine → Machine → List Turn → Type 0
SameRuns L m₁ m₂ [] = Unit {0}
SameRuns L m₁ m₂ (t ∷ ts) = SameCall t.changed L m₁ m₂ t.first t.second × SameRuns L (step m₁ t.first).machine (step m₂ t.second).machine ts

-- The general claim. With no frames in L free frames agree throughout; with all frames in L nothing is asked of free frames, as a
-- first scratch area may hold anything, and a new space agrees all the same.
abbrev pub TwoRuns : Type 0
TwoRuns = (X L : ℕ → Bool) (ts : List Turn) (m₁ m₂ : Machine) → Ready m₁ → Alike X L m₁ m₂ → Varied X m₁ ts → SameRuns L m₁ m₂ ts

-- The paper's own claim. It is of any sound state with its scratch, any live space in it, and any list of calls, refused ones
-- included, run twice. What may differ are the bytes first held in that space and, at the same length, the data of stores: "Data
-- may differ in stores that reach it in the first run."

-- scratch is equal at every byte outside that space, free frames included
pub record OutsideSpace (s : State) (u : ℕ) (m₁ m₂ : List ℕ) : Type 0 where
  pub room : length m₁ ≡ length m₂
  pub bytes : (p : ℕ) → ((a : ℕ) → a < size_of s.spaces u → place_of (layout s) u a ≢ p) → get_or m₁ p 0 ≡ get_or m₂ p 0

-- only the data of stores that reach the space in the first run differ, lengths kept; so every fetch's buffer is first
-- filled alike
pub record StoreMayDiffer (id : ℕ) (m : Machine) (i j : Issue) : Type 0 where
  pub call : i.call ≡ j.call
  pub long : length j.buffer ≡ length i.buffer
  pub same : ((is_store i.call.operation ≡ true) × Reaches m i id → ⊥) → i.buffer ≡ j.buffer

unfoldable pub StoresVaried : (id : ℕ) → Machine → (first second : List Issue) → Type 0
StoresVaried x m [] [] = Unit {0}
StoresVaried x m [] (j ∷ js) = ⊥
StoresVaried x m (i ∷ is) [] = ⊥
StoresVaried x m (i ∷ is) (j ∷ js) = StoreMayDiffer x m i j × StoresVaried x (step m i).machine is js

-- every live space but one holds equal bytes
abbrev pub EqualBut : (id : ℕ) → State → (scratch₁ scratch₂ : List ℕ) → Type 0
EqualBut x s m₁ m₂ = (u : ℕ) → Live s.spaces u → (space_at s.spaces u).id ≢ x → bytes_of s u m₁ ≡ bytes_of s u m₂

-- Paper 02, M-101: "Demand 3 then also gives equal bytes in the former frames of the space while they stay free." Every frame that
-- no live space has holds equal bytes, whichever space had it.
abbrev pub EqualFree : State → (scratch₁ scratch₂ : List ℕ) → Type 0
EqualFree s m₁ m₂ = (f : ℕ) → FreeIn s f → frame_bytes f m₁ ≡ frame_bytes f m₂

-- Two outcomes of one call: the same answer, equal tables, equal bytes in each live space but that one and in each free frame, and
-- an equal buffer unless the call reaches that space. `m` and `i` are the first run's machine before the call, and its call.
pub record SameOutside (id : ℕ) (m : Machine) (i : Issue) (o₁ o₂ : Outcome) : Type 0 where
  pub number : number o₁.answer ≡ number o₂.answer
  pub value : value o₁.answer ≡ value o₂.answer
  pub answer : o₁.answer ≡ o₂.answer
  pub tables : o₁.machine.tables ≡ o₂.machine.tables
  pub bytes : EqualBut id o₁.machine.tables o₁.machine.scratch o₂.machine.scratch
  pub free : EqualFree o₁.machine.tables o₁.machine.scratch o₂.machine.scratch
  pub buffer : (Reaches m i id → ⊥) → o₁.buffer ≡ o₂.buffer

-- at every call of the list, by the outcomes of its calls in both runs
unfoldable pub AllSameOutside : (id : ℕ) → Machine → List Issue → (first second : List Outcome) → Type 0
AllSameOutside x m [] [] [] = Unit {0}
AllSameOutside x m [] [] (p ∷ ps) = ⊥
AllSameOutside x m [] (o ∷ os) ps = ⊥
AllSameOutside x m (i ∷ is) [] ps = ⊥
AllSameOutside x m (i ∷ is) (o ∷ os) [] = ⊥
AllSameOutside x m (i ∷ is) (o ∷ os) (p ∷ ps) = SameOutside x m i o p × AllSameOutside x o.machine is os ps

abbrev pub Isolation : Type 0
Isolation =
    (s : State) (scratch₁ scratch₂ : List ℕ) (u : ℕ) (first second : List Issue)
    → Ready (record { tables = s; scratch = scratch₁ })
    → Live s.spaces u
    → OutsideSpace s u scratch₁ scratch₂
    → StoresVaried (space_at s.spaces u).id (record { tables = s; scratch = scratch₁ }) first second
    → AllSameOutside (space_at s.spaces u).id (record { tables = s; scratch = scratch₁ }) first
    (run (record { tables = s; scratch = scratch₁ }) first) (run (record { tables = s; scratch = scratch₂ }) second)
