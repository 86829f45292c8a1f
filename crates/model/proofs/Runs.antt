-- The searches for what is free find the lowest, and find none only where there is none, in every state, sound or not.
-- Assumes nothing.
use Prim.Native.Nat.{ℕ, ◌+◌, ◌-◌, ◌≤◌, ◌<◌}
use mathlib.Core.Bool.{Bool, true, false, not}
use mathlib.Core.List.{List}
use mathlib.Core.Logic.{inl, inr}
use mathlib.Core.Path.{◌≡◌, refl, ap}
use native.Mathlib.Decide.{dec_le}
use native.Mathlib.Omega.{arith}
use Rattle.lists.specs.Choice.{both}
use Rattle.lists.specs.Decides.{Decides}
use Rattle.lists.specs.Lowest.{Lowest}
use Rattle.lists.specs.Places.{some}
use Rattle.lists.proofs.Choice.{true_false}
use Rattle.lists.proofs.Decides.{d_le, d_eq, d_not, d_both, d_implies, d_map, d_every, d_some, d_lt, same_by}
use Rattle.lists.proofs.Lowest.{lowest_decided}
use Rattle.model.specs.declared.Entry.{Entry}
use Rattle.model.specs.declared.Space.{Space}
use Rattle.model.specs.declared.Standing.{Standing}
use Rattle.model.specs.declared.Standing.TheVariants.{Unused}
use Rattle.model.specs.declared.State.{State}
use Rattle.model.specs.Frames.{Layout, layout, frame_of, has_frame, frame_free}
use Rattle.model.specs.Leaves.{in_run}
use Rattle.model.specs.Runs.{IsRun, AfterSpace, StartsAt, RunStarts}
use Rattle.model.specs.Searches.{free_slot, run_free, run_in, free_run, is_unused, free_entry}
use Rattle.model.specs.Sizes.{slot_count}
use Rattle.model.specs.Sound.{HasFrame, Free, Live}
use Rattle.model.specs.Tables.{space_at, live, entry_at}
use Rattle.model.proofs.Searches.{d_live, unused_is}

d_unused : (x : Standing) → Decides (is_unused x) (x ≡ Unused)
unfolding is_unused
d_unused x = record { to = unused_is x; of = λ e. ap is_unused e }

pub d_has : (l : Layout) (ss : List Space) (u f : ℕ) → Decides (has_frame l ss u f) (HasFrame l ss u f)
unfolding has_frame
d_has l ss u f = d_some (space_at ss u).pages (λ p. d_eq (frame_of l u p) f)

-- the frames of a space are a run
pub d_in_run : (i n f : ℕ) → Decides (in_run i n f) ((i ≤ f) × (f < i + n))
unfolding in_run
d_in_run i n f = d_both (d_le i f) (d_lt f (i + n))

pub has_run : (ss : List Space) (u f : ℕ) → has_frame ss ss u f ≡ in_run (space_at ss u).first (space_at ss u).pages f
unfolding frame_of
has_run ss u f =
    let i = (space_at ss u).first in
    same_by (d_has ss ss u f) (d_in_run i (space_at ss u).pages f) (λ (p, b, e). (omega arith, omega arith)) (λ (low, high). (f - i, omega arith, omega arith))

pub d_frame : (l : Layout) (ss : List Space) (f : ℕ) → Decides (frame_free l ss f) (Free l ss f)
unfolding frame_free
d_frame l ss f = d_every slot_count (λ u. d_implies (d_live (space_at ss u)) (d_not (d_has l ss u f)))

d_run : (s : State) (n f : ℕ) → f < s.frames → Decides (run_free s.frames (layout s) s.spaces n f) (IsRun s n f)
unfolding run_free
d_run s n f b =
    d_map (λ h. record { start = b; inside = h.0; free = h.1 }) (λ r. (r.inside, r.free))
    (d_both (d_le (f + n) s.frames) (d_every n (λ k. d_frame (layout s) s.spaces (f + k))))

-- answer 10: "no run of that many neighbouring free frames exists"
pub lowest_run : (s : State) (n : ℕ) → Lowest (IsRun s n) s.frames (free_run s n)
unfolding run_in
lowest_run s n = lowest_decided (run_free s.frames (layout s) s.spaces n) (IsRun s n) s.frames (d_run s n)

-- a frame is free, or a page of a live space has it
data Held (l : Layout) (ss : List Space) (f : ℕ) : Type 0 where
  free : Free l ss f → Held l ss f
  had : (u : ℕ) → u < slot_count → Live ss u → HasFrame l ss u f → Held l ss f

held : (l : Layout) (ss : List Space) (f : ℕ) → Held l ss f
held l ss f = go _ refl
  where
    has : Decides (some (λ u. both (live (space_at ss u)) (has_frame l ss u f)) slot_count) ((u : ℕ) × (u < slot_count) × (Live ss u × HasFrame l ss u f))
    has = d_some slot_count (λ u. d_both (d_live (space_at ss u)) (d_has l ss u f))

    go : (b : Bool) → some (λ u. both (live (space_at ss u)) (has_frame l ss u f)) slot_count ≡ b → Held l ss f
    go true e = let (u, low, (lives, h)) = has.to e in had u low lives h
    go false e = free (λ u low lives h. true_false (has.of (u, low, (lives, h))) e)

-- M-103. f = g + 1 is where the lowest run of n frames starts: no run starts at g
module _ (s : State) (n f g : ℕ) (low : Lowest (IsRun s n) s.frames f) (b : f < s.frames) (e : g + 1 ≡ f) where
  abbrev FreeAt : ℕ → Type 0
  FreeAt = Free (layout s) s.spaces

  run : IsRun s n f
  run = low.found b

  not_lower : (1 ≤ n → FreeAt g) → ⊥
  not_lower h = omega (arith, low.least g (omega arith) (record { start = omega arith; inside = omega (arith, run.inside); free = λ k l. at k l (dec_le k 0) }))
    where
      at : (k : ℕ) → k < n → Dec (k ≤ 0) → FreeAt (g + k)
      at k l (yes z) = let q : g + k ≡ g = omega arith in rw q (h (omega arith))
      at k l (no z) = let q : g + k ≡ f + (k - 1) = omega arith in rw q (run.free (k - 1) (omega arith))

  -- so a page of a live space has the frame g, and it is the space's last page, since the frame f is free
  after : 1 ≤ n → Held (layout s) s.spaces g → AfterSpace s f
  unfolding frame_of
  after one (free h) = absurd (not_lower (λ _. h))
  after one (had u lu lives (p, lp, is)) = record { slot = u; page = p; low = lu; live = lives; last = last (dec_le (p + 2) (space_at s.spaces u).pages); follows = omega arith }
    where
      last : Dec (p + 2 ≤ (space_at s.spaces u).pages) → p + 1 ≡ (space_at s.spaces u).pages
      last (yes more) = absurd (run.free 0 one u lu lives (p + 1, omega arith, omega arith))
      last (no end) = omega arith

  after_space : Dec (1 ≤ n) → AfterSpace s f
  after_space (yes one) = after one (held (layout s) s.spaces g)
  after_space (no none) = absurd (not_lower (λ one. absurd (none one)))

pub run_starts : RunStarts
run_starts s n f low b = go (dec_le f 0)
  where
    go : Dec (f ≤ 0) → StartsAt s f
    go (yes z) = inl (omega arith)
    go (no z) = inr (after_space s n f (f - 1) low b (omega arith) (dec_le 1 n))

-- the run that ENROL and CREATE take
pub free_run_starts : (s : State) (n : ℕ) → free_run s n < s.frames → StartsAt s (free_run s n)
free_run_starts s n = run_starts s n (free_run s n) (lowest_run s n)

-- answer 9: "32 spaces live"
pub lowest_slot : (ss : List Space) → Lowest (λ u. (space_at ss u).id ≡ 0) slot_count (free_slot ss)
unfolding free_slot
lowest_slot ss =
    lowest_decided (λ u. not (live (space_at ss u))) (λ u. (space_at ss u).id ≡ 0) slot_count
    (λ u _. d_map (λ n. omega arith) (λ e l. omega arith) (d_not (d_live (space_at ss u))))

-- answer 13: "no unused entry among the caller's L"; places count from 0, entries from 2
pub lowest_entry : (es : List Entry) (g l : ℕ) → Lowest (λ k. (entry_at es g (k + 2)).standing ≡ Unused) l (free_entry es g l)
unfolding free_entry
lowest_entry es g l =
    lowest_decided (λ k. is_unused (entry_at es g (k + 2)).standing) (λ k. (entry_at es g (k + 2)).standing ≡ Unused) l (λ k _. d_unused (entry_at es g (k + 2)).standing)
