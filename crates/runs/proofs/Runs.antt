-- The search for the lowest run of free frames, which goes from start to start: where a live space meets the run that is
-- tried, it meets every run that starts before its end too. Assumes nothing.
use Prim.Native.Nat.{ℕ, ◌+◌, ◌-◌, ◌*◌, ◌%◌, ◌≤◌, ◌<◌}
use mathlib.Core.Bool.{Bool, true, false}
use mathlib.Core.List.{List}
use mathlib.Core.Path.{◌≡◌, sym, ◌∙◌}
use native.Mathlib.Decide.{dec_le, ℕ_discrete}
use native.Mathlib.Omega.{arith}
use borrow.Author.Tests.{leb-true, ltb-true, le-leb, lt-leb, lt-ltb}
use Rattle.lists.proofs.Choice.{true_false, not_so, both_left, both_right, both_intro, both_no}
use Rattle.lists.proofs.Places.{every_at, every_intro, lowest_none, lowest_is}
use Rattle.model.specs.declared.Space.{Space}
use Rattle.model.specs.Frames.{frame_of}
use Rattle.model.specs.Searches.{run_free, run_in}
use Rattle.model.specs.Tables.{space_at, live}
use Rattle.model.proofs.Runs.{d_frame}
use Rattle.model.proofs.Searches.{d_live}
use Rattle.runs.specs.Meeting.{meets}

abbrev end_of : Space → ℕ
end_of x = x.first + x.pages

abbrev meets_space : (f n : ℕ) → Space → Bool
meets_space f n x = meets f n x.id x.first x.pages

-- the space is live and has one of n frames from f on
record Meets (f n : ℕ) (x : Space) : Type 0 where
  live : live x ≡ true
  pages : 1 ≤ x.pages
  starts : x.first < f + n
  ends : f < end_of x

meets_to : (f n : ℕ) (x : Space) → meets_space f n x ≡ true → Meets f n x
unfolding meets
meets_to f n x e =
    let a = both_right (live x) _ e in
    let b = both_right _ _ a in
    record {
      live = both_left _ _ e;
      pages = leb-true 1 x.pages (both_left _ _ a);
      starts = ltb-true x.first (f + n) (both_left _ _ b);
      ends = ltb-true f (end_of x) (both_right _ _ b);
    }

meets_of : (f n : ℕ) (x : Space) → Meets f n x → meets_space f n x ≡ true
unfolding meets
meets_of f n x m =
    both_intro _ _ m.live
    (both_intro _ _ (le-leb 1 x.pages m.pages)
    (both_intro _ _ (lt-ltb x.first (f + n) m.starts) (lt-ltb f (end_of x) m.ends)))

module _ (F : ℕ) (ss : List Space) (n : ℕ) where
  abbrev run : ℕ → Bool
  run = run_free F ss ss n

  -- no run starts where a page of a live space lies in one of the frames
  occupied : (f u p k : ℕ) → u < 32 → live (space_at ss u) ≡ true → p < (space_at ss u).pages → k < n → frame_of ss u p ≡ f + k → run f ≡ false
  unfolding run_free
  occupied f u p k hu l hp hk same = not_so (run f) (λ e.
      (d_frame ss ss (f + k)).to (every_at _ n (both_right _ _ e) k hk) u hu ((d_live (space_at ss u)).to l) (p, hp, same))

  -- a run starts where no live space is met
  unmet : (f : ℕ) → f + n ≤ F → ((u : ℕ) → u < 32 → Meets f n (space_at ss u) → ⊥) → run f ≡ true
  unfolding run_free frame_of
  unmet f h none =
      both_intro _ _ (le-leb (f + n) F h)
      (every_intro _ n (λ k hk. (d_frame ss ss (f + k)).of (λ u hu l (p, hp, e).
      none u hu (record { live = (d_live (space_at ss u)).of l; pages = omega arith; starts = omega arith; ends = omega arith }))))

  -- where the space in slot u is met, no run starts from f to its end
  met : (f u : ℕ) → 1 ≤ n → u < 32 → Meets f n (space_at ss u) → (g : ℕ) → f ≤ g → g < end_of (space_at ss u) → run g ≡ false
  unfolding frame_of
  met f u one hu m g low high = go (dec_le g (space_at ss u).first)
    where
      go : Dec (g ≤ (space_at ss u).first) → run g ≡ false
      go (yes l) = occupied g u 0 ((space_at ss u).first - g) hu m.live m.pages (omega arith) (omega arith)
      go (no l) = occupied g u (g - (space_at ss u).first) 0 hu m.live (omega arith) (omega arith) (omega arith)

  -- so far no run was found: none starts below f, and the spaces in the c slots before u, round the ring, have no frame of the
  -- one that starts there. Slot v lies (u + 31 - v) % 32 slots before the one that was asked last, which is the one before u.
  pub record Tried (f u c : ℕ) : Type 0 where
    pub slot : u < 32
    none : (g : ℕ) → g < f → run g ≡ false
    clear : (v : ℕ) → v < 32 → (u + 31 - v) % 32 < c → meets_space f n (space_at ss v) ≡ false

  pub try_start : Tried 0 0 0
  try_start = record { slot = omega arith; none = λ g l. absurd (omega arith); clear = λ v h l. absurd (omega arith) }

  -- a run ends inside F
  past : (g : ℕ) → F < g + n → run g ≡ false
  unfolding run_free
  past g h = both_no _ (lt-leb (g + n) F h)

  pub try_small : F < n → F ≡ run_in F ss ss n
  unfolding run_in
  try_small h = sym (lowest_none run F (λ g _. past g (omega arith)))

  -- what is known where slot u was asked, and meets the run or not
  module _ (f u c : ℕ) (b : Bool) (t : Tried f u c) (e : b ≡ meets_space f n (space_at ss u)) where
    -- the space has no frame of it: the next slot
    pub try_next : b ≡ false → Tried f ((u + 1) % 32) (c + 1)
    try_next y = record { slot = omega arith; none = t.none; clear = λ v h. go v h (ℕ_discrete v u) }
      where
        go : (v : ℕ) → v < 32 → Dec (v ≡ u) → ((u + 1) % 32 + 31 - v) % 32 < c + 1 → meets_space f n (space_at ss v) ≡ false
        go v h (yes q) l = rw q (sym e ∙ y)
        go v h (no q) l = t.clear v h (omega arith)

    -- it has one: no run starts before its end
    module _ (end : ℕ) (one : 1 ≤ n) (y : b ≡ true) (w : end ≡ end_of (space_at ss u)) where
      ended : (g : ℕ) → g < end → run g ≡ false
      ended g l = go (dec_le f g)
        where
          go : Dec (f ≤ g) → run g ≡ false
          go (yes a) = met f u one t.slot (meets_to f n (space_at ss u) (sym e ∙ y)) g a (omega arith)
          go (no a) = t.none g (omega arith)

      pub try_again : Tried end ((u + 1) % 32) 0
      try_again = record { slot = omega arith; none = ended; clear = λ v h l. absurd (omega arith) }

      pub try_none : n ≤ F → F - n < end → F ≡ run_in F ss ss n
      unfolding run_in
      try_none big l = sym (lowest_none run F (λ g _. go g (dec_le end g)))
        where
          go : (g : ℕ) → Dec (end ≤ g) → run g ≡ false
          go g (yes a) = past g (omega arith)
          go g (no a) = ended g (omega arith)

  pub try_found : (f u c : ℕ) → Tried f u c → 32 ≤ c → 1 ≤ n → n ≤ F → f ≤ F - n → f ≡ run_in F ss ss n
  unfolding run_in
  try_found f u c t h one big l =
      sym (lowest_is run F f (omega arith) (unmet f (omega arith) (λ v b m.
      true_false (meets_of f n (space_at ss v) m) (t.clear v b (omega arith)))) t.none)

-- each start is later than the one before, which outweighs the slots asked
abbrev pub left : (last first clear : ℕ) → ℕ
left last f c = (last + 1 - f) * 33 + (32 - c)

pub try_later : (n f last end c : ℕ) (x : Space) (b : Bool) → b ≡ meets_space f n x → b ≡ true → end ≡ end_of x → f ≤ last → end ≤ last
    → left last end 0 < left last f c
try_later n f last end c x b e y w l h = omega (arith, (meets_to f n x (sym e ∙ y)).ends)

pub ruleset runs = (try_start, try_small, try_next, try_again, try_none, try_found, try_later, arith)
