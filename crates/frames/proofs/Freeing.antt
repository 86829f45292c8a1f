-- The frames of spaces that go: what a loop over the slots, one run a turn, has made of a list that has elements for frames, as cells
-- or bytes are. Assumes nothing.
use Prim.Native.Nat.{ℕ, ◌+◌, ◌*◌, ◌/◌, ◌≤◌}
use mathlib.Core.Bool.{Bool, true, false}
use mathlib.Core.List.{List}
use mathlib.Core.Path.{◌≡◌, refl, sym, ap, fun_ext, ◌∙◌}
use native.Mathlib.Omega.{arith}
use lib.ListN.{length, get_or}
use lib.Seq.{ext_get_or}
use borrow.Author.Tests.{le-ltb}
use Rattle.lists.specs.Choice.{choose, both, either}
use Rattle.lists.specs.Places.{lowest, some, map_places}
use Rattle.lists.proofs.Choice.{not_so, no!, choose_elim, choose_same, both_yes, both_no}
use Rattle.lists.proofs.Decides.{some_more}
use Rattle.lists.proofs.Maps.{length-map_places, map_at, map_same}
use Rattle.model.specs.declared.Space.{Space}
use Rattle.model.specs.Changes.{freed}
use Rattle.model.specs.Frames.{has_frame}
use Rattle.model.specs.Leaves.{in_run}
use Rattle.model.specs.Searches.{is_data}
use Rattle.model.specs.Step.{clear_frames}
use Rattle.model.specs.Tables.{space_at}
use Rattle.model.proofs.Clearing.{length-clear_frames}
use Rattle.model.proofs.Runs.{d_in_run, has_run}
use Rattle.frames.specs.Runs.{RunsInside, slots_of}

choose_twice : {A : Type 0} (s t : Bool) (a x : A) → choose s a (choose t a x) ≡ choose (either t s) a x
unfolding choose either
choose_twice true true a x = refl
choose_twice true false a x = refl
choose_twice false true a x = refl
choose_twice false false a x = refl

-- the elements of some frames are d; `frame` tells of which frame an element is, by its place
module _ {A : Type 0} (d : A) (frame : ℕ → ℕ) where
  unfoldable pub filled : (frames : ℕ → Bool) → List A → List A
  filled fs l = map_places (λ k x. choose (fs (frame k)) d x) l

  length-filled : (fs : ℕ → Bool) (l : List A) → length (filled fs l) ≡ length l
  unfolding filled
  length-filled fs l = length-map_places _ l

  filled_at : (fs : ℕ → Bool) (l : List A) (k : ℕ) → get_or (filled fs l) k d ≡ choose (fs (frame k)) d (get_or l k d)
  unfolding filled
  filled_at fs l k = map_at _ l d (λ j. choose_same (fs (frame j)) d) k

  filled_twice : (s t : ℕ → Bool) (l : List A) → filled s (filled t l) ≡ filled (λ f. either (t f) (s f)) l
  filled_twice s t l =
      ext_get_or d _ _ (length-filled s (filled t l) ∙ length-filled t l ∙ sym (length-filled _ l)) (λ k _.
      filled_at s (filled t l) k ∙ ap (choose (s (frame k)) d) (filled_at t l k) ∙ choose_twice (s (frame k)) (t (frame k)) d _ ∙ sym (filled_at _ l k))

module _ (ss : List Space) (gone : ℕ → Bool) where
  -- the frames of spaces that go, of the slots below u
  unfoldable pub freed_below : ℕ → (frame : ℕ) → Bool
  freed_below u f = some (λ v. both (gone v) (has_frame ss ss v f)) u

  none_below : (f : ℕ) → freed_below 0 f ≡ false
  unfolding freed_below some
  none_below f = le-ltb (lowest _ 0) 0 (omega arith)

  -- one slot: nothing of it is freed where its space stays
  one_run : (u n f : ℕ) → n ≡ choose (gone u) (space_at ss u).pages 0 → in_run (space_at ss u).first n f ≡ both (gone u) (has_frame ss ss u f)
  one_run u n f e =
      let i = (space_at ss u).first in
      rw e
      (choose_elim (λ m. in_run i m f ≡ both (gone u) (has_frame ss ss u f)) (gone u) (space_at ss u).pages 0
      (λ y. sym (both_yes _ y ∙ has_run ss u f))
      (λ z. not_so _ (λ t. let (low, high) = (d_in_run i 0 f).to t in omega arith) ∙ sym (both_no _ z)))

  one_more : (u n : ℕ) → n ≡ choose (gone u) (space_at ss u).pages 0 → (λ f. either (freed_below u f) (in_run (space_at ss u).first n f)) ≡ freed_below (u + 1)
  unfolding freed_below
  one_more u n e = fun_ext (λ f. ap (either (freed_below u f)) (one_run u n f e) ∙ sym (some_more _ u))

  -- all slots
  pub freed_all : (u : ℕ) → u ≤ 32 → 32 ≤ u → freed_below u ≡ freed ss ss gone
  unfolding freed_below freed
  freed_all u l h = let q : u ≡ 32 = omega arith in ap freed_below q

  -- before the first turn, and one turn
  module _ {A : Type 0} (d : A) (frame : ℕ → ℕ) (l : List A) where
    pub freed_none : l ≡ filled d frame (freed_below 0) l
    unfolding filled
    freed_none = sym (map_same _ l d (λ k _. no! _ _ (none_below (frame k))))

    pub freed_more : (a : List A) (u n : ℕ) → a ≡ filled d frame (freed_below u) l → n ≡ choose (gone u) (space_at ss u).pages 0
        → filled d frame (in_run (space_at ss u).first n) a ≡ filled d frame (freed_below (u + 1)) l
    freed_more a u n e size =
        ap (filled d frame (in_run (space_at ss u).first n)) e
        ∙ filled_twice d frame _ (freed_below u) l
        ∙ ap (λ t. filled d frame t l) (one_more u n size)

-- a run that is freed lies where all runs do
pub freed_inside : (ss : List Space) (F g u n : ℕ) → n ≡ choose (is_data g (space_at ss u)) (space_at ss u).pages 0 → RunsInside F ss → (space_at ss u).first + n ≤ F
freed_inside ss F g u n size r =
    rw size
    (choose_elim (λ m. (space_at ss u).first + m ≤ F) (is_data g (space_at ss u)) (space_at ss u).pages 0 (λ _. r.inside u) (λ _. omega (arith, r.inside u)))

-- For search: the bytes of a guest's data spaces.
module _ (ss : List Space) (g : ℕ) (m : List ℕ) where
  abbrev gone : (slot : ℕ) → Bool
  gone = slots_of (is_data g) ss

  -- a is scratch where the slots below u have been gone through
  unfoldable pub ClearedBelow : ℕ → (a : List ℕ) → Type 0
  ClearedBelow u a = a ≡ clear_frames (freed_below ss gone u) m

  pub data_start : ClearedBelow 0 m
  unfolding clear_frames filled ClearedBelow
  data_start = freed_none ss gone 0 (λ p. p / 4096) m

  pub data_length : (a : List ℕ) (u : ℕ) → ClearedBelow u a → length a ≡ length m
  unfolding ClearedBelow
  data_length a u e = ap length e ∙ length-clear_frames _ m

  pub data_done : (a : List ℕ) (u : ℕ) → ClearedBelow u a → u ≤ 32 → 32 ≤ u → a ≡ clear_frames (freed ss ss gone) m
  unfolding ClearedBelow
  data_done a u e l h = e ∙ ap (λ t. clear_frames t m) (freed_all ss gone u l h)

  -- one turn
  module _ (a : List ℕ) (u n : ℕ) (size : n ≡ choose (is_data g (space_at ss u)) (space_at ss u).pages 0) (e : ClearedBelow u a) where
    pub data_fits : RunsInside (length m / 4096) ss → (space_at ss u).first * 4096 + n * 4096 ≤ length a
    data_fits r = omega (arith, data_length a u e, freed_inside ss (length m / 4096) g u n size r)

    pub data_go : (b : List ℕ) → b ≡ clear_frames (in_run (space_at ss u).first n) a → ClearedBelow (u + 1) b
    unfolding clear_frames filled ClearedBelow slots_of
    data_go b is = is ∙ freed_more ss gone 0 (λ p. p / 4096) m a u n e size

pub ruleset clearing = (data_start, data_length, data_fits, data_go, data_done)
