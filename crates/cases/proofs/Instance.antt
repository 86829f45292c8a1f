-- The instance of specs/Instance: it is sound, its calls return what is listed, and the theorem of two runs speaks of it.
-- Assumes nothing.
use Prim.Native.Nat.{ℕ}
use mathlib.Core.List.{List, [], ◌∷◌}
use mathlib.Core.Logic.{◌≢◌, inr}
use mathlib.Core.Path.{◌≡◌, refl, sym, ap, ap₂, ◌∙◌}
use native.Mathlib.Omega.{arith}
use lib.ListN.{length, get_or, set, length-set, length-replicate, get_or-replicate}
use lib.Seq.{get_or-set_same, get_or-set_other}
use lib.Dec.{eqb}
use Rattle.lists.specs.Bytes.{put, get}
use Rattle.model.specs.declared.Operation.TheVariants.{Destroy}
use Rattle.model.specs.declared.Right.TheVariants.{Write}
use Rattle.model.specs.declared.Space.{Space}
use Rattle.model.specs.Answers.{number}
use Rattle.model.specs.Changes.{freed}
use Rattle.model.specs.Frames.{layout, frame_of, has_frame, frame_free}
use Rattle.model.specs.Sound.{Live, FreeIn, Sound}
use Rattle.model.specs.Step.{Machine, Ready, Issue, Outcome, step, run, after_run, clear_frames, scratch_after, buffer_after}
use Rattle.model.proofs.Clearing.{clears_on}
use Rattle.model.proofs.Runs.{d_frame}
use Rattle.cases.specs.Instance.{start, own, holding, zeros, altered, look, change, others, calls, first, second, Result, results, listed}
use Rattle.isolation.specs.Freed.{Zeroed}
use Rattle.isolation.specs.Reaches.{Reaches}
use Rattle.isolation.specs.Records.{issue}
use Rattle.isolation.specs.TwoRuns.{OutsideSpace, StoresVaried, AllSameOutside}
use Rattle.cases.proofs.Decisions.{decisions, tests}
use Rattle.cases.proofs.InstanceRun.{run_with, step_with_lem, run_with_lem}
use Rattle.cases.proofs.Starts.{tables_test, sound_blank}
use Rattle.isolation.proofs.Freed.{zero_once_freed}
use Rattle.isolation.proofs.Isolation.{isolation}

pub sound_start : Sound start
unfolding start tables_test tests
sound_start = sound_blank start refl refl

-- with any scratch of its length it is ready
ready_with : (z : List ℕ) → length z ≡ 16384 → Ready (holding z)
unfolding start
ready_with z room = record { sound = sound_start; room = room }

-- The two bytes at the start of frame 2; scratch after the store, and after it when the space was destroyed and another made; and
-- what these leave there.
abbrev pair : List ℕ → List ℕ
pair z = get_or z 8192 0 ∷ get_or z 8193 0 ∷ []

abbrev stored : List ℕ → ℕ → ℕ → List ℕ
stored z a b = set (set z 8192 a) 8193 b

pair_stored : (z : List ℕ) (a b : ℕ) → length z ≡ 16384 → pair (stored z a b) ≡ a ∷ b ∷ []
pair_stored z a b room =
    ap₂ (λ (x y : ℕ). x ∷ y ∷ [])
    (get_or-set_other (set z 8192 a) 8193 8192 b 0 (omega arith) ∙ get_or-set_same z 8192 a 0 (omega arith))
    (get_or-set_same (set z 8192 a) 8193 b 0 (omega (arith, length-set z 8192 a)))

-- the slots as guest 2's new space leaves them, its frames, and those of the space that went
abbrev made : List Space
made = set start.spaces 2 own

abbrev remade : List ℕ → List ℕ
remade z = clear_frames (has_frame made made 2) (clear_frames (freed start.spaces start.spaces (eqb 2)) z)

pair_remade : (z : List ℕ) → pair (remade z) ≡ 0 ∷ 0 ∷ []
unfolding start decisions
pair_remade z = ap₂ (λ (x y : ℕ). x ∷ y ∷ []) (clears_on _ _ 8192 refl) (clears_on _ _ 8193 refl)

-- what is computed of a run, and what follows
abbrev Computed : (scratch : List ℕ) (a b : ℕ) → Type 0
Computed z a b = results (run_with (holding z) (calls (a ∷ b ∷ []))) ≡ listed (pair z) (a ∷ b ∷ []) (pair (stored z a b)) (pair (remade (stored z a b)))

returns : (z : List ℕ) (a b : ℕ) → length z ≡ 16384 → Computed z a b → results (run (holding z) (calls (a ∷ b ∷ []))) ≡ listed (pair z) (a ∷ b ∷ []) (a ∷ b ∷ []) (0 ∷ 0 ∷ [])
returns z a b room c =
    ap results (run_with_lem (calls (a ∷ b ∷ [])) (holding z) (ready_with z room))
    ∙ c
    ∙ ap₂ (listed (pair z) (a ∷ b ∷ [])) (pair_stored z a b room) (pair_remade (stored z a b))

-- The first run.
pub long : length zeros ≡ 16384
unfolding zeros
long = length-replicate {A = ℕ} 16384 0

computed_first : Computed zeros 1 2
unfolding start decisions results run_with scratch_after buffer_after put get
computed_first = refl

held_first : pair zeros ≡ 0 ∷ 0 ∷ []
unfolding zeros
held_first = ap₂ (λ (x y : ℕ). x ∷ y ∷ []) (get_or-replicate 16384 8192 0 0 (omega arith)) (get_or-replicate 16384 8193 0 0 (omega arith))

pub first_run : results (run (holding zeros) first) ≡ listed (0 ∷ 0 ∷ []) (1 ∷ 2 ∷ []) (1 ∷ 2 ∷ []) (0 ∷ 0 ∷ [])
first_run = returns zeros 1 2 long computed_first ∙ ap (λ x. listed x (1 ∷ 2 ∷ []) (1 ∷ 2 ∷ []) (0 ∷ 0 ∷ [])) held_first

-- The second run.
long_altered : length altered ≡ 16384
unfolding altered
long_altered = length-set zeros 8193 7 ∙ long

computed_second : Computed altered 3 4
unfolding start decisions results run_with scratch_after buffer_after put get
computed_second = refl

held_second : pair altered ≡ 0 ∷ 7 ∷ []
unfolding altered
held_second =
    ap₂ (λ (x y : ℕ). x ∷ y ∷ [])
    (get_or-set_other zeros 8193 8192 7 0 (omega arith) ∙ ap (λ (l : List ℕ). get_or l 0 0) held_first)
    (get_or-set_same zeros 8193 7 0 (omega (arith, long)))

pub second_run : results (run (holding altered) second) ≡ listed (0 ∷ 7 ∷ []) (3 ∷ 4 ∷ []) (3 ∷ 4 ∷ []) (0 ∷ 0 ∷ [])
second_run = returns altered 3 4 long_altered computed_second ∙ ap (λ x. listed x (3 ∷ 4 ∷ []) (3 ∷ 4 ∷ []) (0 ∷ 0 ∷ [])) held_second

-- The premises of `Isolation`.
pub ready_start : Ready (holding zeros)
ready_start = ready_with zeros long

pub live_shared : Live start.spaces 2
unfolding start
live_shared = omega arith

pub outside : OutsideSpace start 2 zeros altered
unfolding start altered decisions
outside = record {
  room = sym (length-set zeros 8193 7);
  bytes = λ p away. sym (get_or-set_other zeros 8193 p 7 0 (λ e. away 1 (omega arith) (sym e)));
}

-- the fetch leaves all as it was, and the store through register 1 reaches space 3
look_leaves : (step (holding zeros) look).machine ≡ holding zeros
unfolding start decisions scratch_after
look_leaves = ap (λ (o : Outcome). o.machine) (step_with_lem (holding zeros) look ready_start)

change_done : number (step (holding zeros) (change (1 ∷ 2 ∷ []))).answer ≡ 0
unfolding start decisions
change_done = ap (λ (o : Outcome). number o.answer) (step_with_lem (holding zeros) (change (1 ∷ 2 ∷ [])) ready_start)

pub change_reaches : Reaches (holding zeros) (change (1 ∷ 2 ∷ [])) 3
unfolding start decisions
change_reaches = record {
  done = change_done;
  register = 1;
  through = refl;
  slot = 2;
  live = live_shared;
  space = refl;
  named = inr ((λ e. omega arith), record { right = Write; valid = refl });
}

-- a list varies from itself in nothing
pub same_calls : (x : ℕ) (is : List Issue) (m : Machine) → StoresVaried x m is is
unfolding StoresVaried
same_calls x [] m = tt
same_calls x (i ∷ is) m = (record { call = refl; long = refl; same = λ _. refl }, same_calls x is (step m i).machine)

pub varied : StoresVaried 3 (holding zeros) first second
unfolding StoresVaried
varied = (
  record { call = refl; long = refl; same = λ _. refl },
  (record { call = refl; long = refl; same = λ away. absurd (away (refl, rw look_leaves change_reaches)) }, same_calls 3 others _),
)

-- so it speaks of these two runs
pub applied : AllSameOutside 3 (holding zeros) first (run (holding zeros) first) (run (holding altered) second)
unfolding start
applied = isolation start zeros altered 2 first second ready_start live_shared outside varied

-- in which the first fetch reads differing bytes
pub differ : (step (holding zeros) look).buffer ≢ (step (holding altered) look).buffer
unfolding run results
differ e =
    let x : (step (holding zeros) look).buffer ≡ 0 ∷ 0 ∷ [] = ap buffer_of first_run in
    let y : (step (holding altered) look).buffer ≡ 0 ∷ 7 ∷ [] = ap buffer_of second_run in
    let z : ◌≡◌ {A = ℕ} 0 7 = cc in
    omega arith
  where
    buffer_of : List Result → List ℕ
    buffer_of [] = []
    buffer_of (r ∷ rs) = r.buffer

-- Frame 2, of which space 3 holds a 7, is zero once guest 1 has destroyed it.
abbrev destroying : List Issue
destroying = issue 1 (Destroy 3) [] ∷ []

abbrev destroyed : Machine
destroyed = after_run (holding altered) destroying

free_then : FreeIn destroyed.tables 2
unfolding start decisions after_run
free_then =
    (d_frame (layout destroyed.tables) destroyed.tables.spaces 2).to
    (ap (λ (o : Outcome). frame_free (layout o.machine.tables) o.machine.tables.spaces 2) (step_with_lem (holding altered) (issue 1 (Destroy 3) []) (ready_with altered long_altered)))

pub freed_frame : Zeroed 2 destroyed.scratch
unfolding start frame_of
freed_frame = zero_once_freed (holding altered) destroying 2 (ready_with altered long_altered) (2, (live_shared, (0, omega arith, refl))) free_then
