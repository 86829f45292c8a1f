-- Paper 02, M-101: of free frames, "zero once freed", in place of paper 01's "Frames keep old bytes while free". Over whole lists of
-- calls: a frame that a live space had and that no live space has any more is filled with zeros; and a frame keeps its bytes as long
-- as it is free, those of a frame that no space ever had too, since a first scratch area may hold anything.
use Rattle.std.specs.Prelude.{ℕ, List, [], ◌∷◌, ◌≡◌, replicate}
use Rattle.model.specs.declared.State.{State}
use Rattle.model.specs.Frames.{layout, frame_bytes}
use Rattle.model.specs.Sizes.{frame_size}
use Rattle.model.specs.Sound.{Live, HasFrame, FreeIn}
use Rattle.model.specs.Step.{Machine, Ready, Issue, Outcome, step, after_run}
use Rattle.isolation.specs.Kept.{Kept, left_by}

-- a live space has the frame f
abbrev pub InUse : State → (frame : ℕ) → Type 0
InUse s f = (u : ℕ) × (Live s.spaces u × HasFrame (layout s) s.spaces u f)

-- the frame f holds zeros, all its bytes
abbrev pub Zeroed : (frame : ℕ) → (scratch : List ℕ) → Type 0
Zeroed f m = frame_bytes f m ≡ replicate frame_size 0

-- `m` is the machine before call i of any list, `calls` are its calls i to j
abbrev pub ZeroOnceFreed : Type 0
ZeroOnceFreed =
    (m : Machine) (calls : List Issue) (f : ℕ)
    → Ready m
    → InUse m.tables f
    → FreeIn (after_run m calls).tables f
    → Zeroed f (after_run m calls).scratch

-- the frame f is free in a machine, and after every call of a list
unfoldable pub FreeThrough : (frame : ℕ) → Machine → List Issue → Type 0
FreeThrough f m [] = FreeIn m.tables f
FreeThrough f m (i ∷ is) = FreeIn m.tables f × FreeThrough f (step m i).machine is

abbrev pub KeptWhileFree : Type 0
KeptWhileFree = (m : Machine) (calls : List Issue) (f : ℕ) → Ready m → FreeThrough f m calls → frame_bytes f (after_run m calls).scratch ≡ frame_bytes f m.scratch

-- The first of these, of calls through the public face: `earlier` are the calls before call i, `later` the calls i to j, and `os`
-- and `ps` what they gave back and left.
abbrev pub ZeroOnceFreedKept : Type 0
ZeroOnceFreedKept =
    (m : Machine) (earlier later : List Issue) (os ps : List Outcome) (f : ℕ)
    → Ready m
    → Kept m earlier os
    → Kept (left_by m os) later ps
    → InUse (left_by m os).tables f
    → FreeIn (left_by (left_by m os) ps).tables f
    → Zeroed f (left_by (left_by m os) ps).scratch
