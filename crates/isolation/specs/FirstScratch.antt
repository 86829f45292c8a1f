-- Paper 02, M-101: "Making a space keeps its own zeros, since a first scratch area may hold anything." What free frames first hold
-- shows nowhere: one list of calls, run on two scratch areas that are equal in every live space.
use Rattle.std.specs.Prelude.{ℕ, List, [], ◌∷◌, ◌≡◌, length}
use Rattle.model.specs.declared.State.{State}
use Rattle.model.specs.Frames.{bytes_of}
use Rattle.model.specs.Sound.{Live}
use Rattle.model.specs.Step.{Ready, Issue, Outcome, run}

-- every live space holds equal bytes
abbrev pub EqualLive : State → (scratch₁ scratch₂ : List ℕ) → Type 0
EqualLive s m₁ m₂ = (u : ℕ) → Live s.spaces u → bytes_of s u m₁ ≡ bytes_of s u m₂

-- two outcomes of one call, which differ in the bytes of free frames at most
pub record SameButFree (o₁ o₂ : Outcome) : Type 0 where
  pub answer : o₁.answer ≡ o₂.answer
  pub tables : o₁.machine.tables ≡ o₂.machine.tables
  pub bytes : EqualLive o₁.machine.tables o₁.machine.scratch o₂.machine.scratch
  pub buffer : o₁.buffer ≡ o₂.buffer

-- at every call of the list
unfoldable pub AllSameButFree : (first second : List Outcome) → Type 0
AllSameButFree [] [] = Unit {0}
AllSameButFree [] (p ∷ ps) = ⊥
AllSameButFree (o ∷ os) [] = ⊥
AllSameButFree (o ∷ os) (p ∷ ps) = SameButFree o p × AllSameButFree os ps

abbrev pub FirstScratch : Type 0
FirstScratch =
    (s : State) (scratch₁ scratch₂ : List ℕ) (calls : List Issue)
    → Ready (record { tables = s; scratch = scratch₁ })
    → length scratch₁ ≡ length scratch₂
    → EqualLive s scratch₁ scratch₂
    → AllSameButFree (run (record { tables = s; scratch = scratch₁ }) calls) (run (record { tables = s; scratch = scratch₂ }) calls)
