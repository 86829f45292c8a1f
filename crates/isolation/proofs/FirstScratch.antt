-- What free frames first hold shows nowhere: an instance of the general claim, with no changed space and all frames free to differ.
-- Assumes nothing.
use Prim.Native.Nat.{ℕ, ◌+◌, ◌*◌, ◌/◌, ◌%◌, ◌<◌}
use mathlib.Core.Bool.{Bool, true, false}
use mathlib.Core.List.{List, [], ◌∷◌}
use mathlib.Core.Logic.{⊎_elim}
use mathlib.Core.Path.{◌≡◌, refl, sym, ap, ◌∙◌}
use native.Mathlib.Omega.{arith}
use lib.ListN.{get_or}
use Rattle.lists.specs.Choice.{both}
use Rattle.lists.specs.Decides.{Decides}
use Rattle.lists.specs.Places.{some}
use Rattle.lists.proofs.Choice.{true_false, true_or_false}
use Rattle.lists.proofs.Decides.{d_both, d_some}
use Rattle.model.specs.declared.State.{State}
use Rattle.model.specs.Frames.{layout, place_of, has_frame}
use Rattle.model.specs.Sizes.{slot_count}
use Rattle.model.specs.Sound.{Live, HasFrame}
use Rattle.model.specs.Step.{Machine, Ready, Issue, step, run}
use Rattle.model.specs.Tables.{space_at, live}
use Rattle.model.proofs.Runs.{d_has}
use Rattle.model.proofs.Searches.{d_live}
use Rattle.model.proofs.Sound.{ready_kept}
use Rattle.model.proofs.SpaceBytes.{get_or-bytes_of}
use Rattle.isolation.specs.FirstScratch.{EqualLive, SameButFree, AllSameButFree, FirstScratch}
use Rattle.isolation.specs.TwoRuns.{Outside, Alike, Turn, Varied, SameCall, SameRuns}
use Rattle.isolation.proofs.Outside.{equal_live}
use Rattle.isolation.proofs.TwoRuns.{two_runs}

abbrev none : ℕ → Bool
none x = false

abbrev all : ℕ → Bool
all f = true

-- a frame that is not free is one of a live space
in_use : (s : State) (f : ℕ)
    → Decides (some (λ u. both (live (space_at s.spaces u)) (has_frame (layout s) s.spaces u f)) slot_count) ((u : ℕ) × (u < slot_count) × (Live s.spaces u × HasFrame (layout s) s.spaces u f))
in_use s f = d_some slot_count (λ u. d_both (d_live (space_at s.spaces u)) (d_has (layout s) s.spaces u f))

-- where all live spaces are equal, all frames are but free ones
module _ (s : State) (m₁ m₂ : List ℕ) (same : EqualLive s m₁ m₂) (p : ℕ) where
  at_place : (u : ℕ) → Live s.spaces u → HasFrame (layout s) s.spaces u (p / 4096) → get_or m₁ p 0 ≡ get_or m₂ p 0
  unfolding place_of
  at_place u l (q, b, e) =
      let a = q * 4096 + p % 4096 in
      let page : a / 4096 ≡ q = omega arith in
      let place : place_of (layout s) u a ≡ p = rw page (omega (arith, e)) in
      let byte : (m : List ℕ) → get_or m p 0 ≡ _ = λ m. ap (λ k. get_or m k 0) (sym place) ∙ sym (get_or-bytes_of s u a m (omega arith)) in
      byte m₁ ∙ ap (λ l. get_or l a 0) (same u l) ∙ sym (byte m₂)

  equal_outside : Outside none all s (p / 4096) → get_or m₁ p 0 ≡ get_or m₂ p 0
  equal_outside out =
      ⊎_elim
      (λ y. let (u, _, (l, h)) = (in_use s (p / 4096)).to y in at_place u l h)
      (λ n. true_false refl (out.free (λ u b l h. true_false ((in_use s (p / 4096)).of (u, b, (l, h))) n)))
      (true_or_false _)

turns : List Issue → List Turn
turns [] = []
turns (i ∷ is) = record { first = i; second = i; changed = none } ∷ turns is

turns_varied : (m : Machine) (is : List Issue) → Varied none m (turns is)
unfolding turns Varied
turns_varied m [] = tt
turns_varied m (i ∷ is) = ((λ _ e. e), record { call = refl; lengths = refl; same = λ _. refl }, turns_varied (step m i).machine is)

same_but_free : (m₁ m₂ : Machine) (i : Issue) → Ready (step m₁ i).machine → SameCall none all m₁ m₂ i i → SameButFree (step m₁ i) (step m₂ i)
same_but_free m₁ m₂ i ready c = record {
  answer = c.answer;
  tables = c.alike.tables;
  bytes = λ u l. equal_live none all (step m₁ i).machine.tables ready.sound u l refl _ _ c.alike.bytes;
  buffer = c.buffer (λ r. true_false r.inside refl);
}

all_same : (is : List Issue) (m₁ m₂ : Machine) → Ready m₁ → SameRuns all m₁ m₂ (turns is) → AllSameButFree (run m₁ is) (run m₂ is)
unfolding turns SameRuns AllSameButFree run
all_same [] m₁ m₂ ready r = tt
all_same (i ∷ is) m₁ m₂ ready r =
    let after = ready_kept m₁ i ready in
    (same_but_free m₁ m₂ i after r.0, all_same is (step m₁ i).machine (step m₂ i).machine after r.1)

pub first_scratch : FirstScratch
first_scratch s scratch₁ scratch₂ calls ready room same =
    let m₁ : Machine = record { tables = s; scratch = scratch₁ } in
    let m₂ : Machine = record { tables = s; scratch = scratch₂ } in
    let alike : Alike none all m₁ m₂ = record { tables = refl; room = room; bytes = equal_outside s scratch₁ scratch₂ same } in
    all_same calls m₁ m₂ ready (two_runs none all (turns calls) m₁ m₂ ready alike (turns_varied m₁ calls))
