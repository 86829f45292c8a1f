-- M-103's claim on concrete tables: the lowest run starts at frame 0, or right after a space's last frame, and neither can be left
-- out. Assumes nothing.
use Prim.Native.Nat.{ℕ, zero, suc, ◌+◌, ◌<◌}
use mathlib.Core.Path.{◌≡◌, refl, ap}
use native.Mathlib.Omega.{arith}
use lib.ListN.{get_or-replicate}
use Rattle.model.specs.declared.Space.{Space}
use Rattle.model.specs.declared.State.{State}
use Rattle.model.specs.Frames.{layout, frame_of}
use Rattle.model.specs.Runs.{AfterSpace, StartsAt}
use Rattle.model.specs.Searches.{free_run}
use Rattle.model.specs.Sizes.{slot_count}
use Rattle.model.specs.Sound.{Live, Sound}
use Rattle.model.specs.Tables.{no_space, space_at}
use Rattle.model.proofs.Runs.{free_run_starts}
use Rattle.cases.specs.Cases.{pair_tables, gap_tables}
use Rattle.cases.proofs.Decisions.{decisions, tests}
use Rattle.cases.proofs.Starts.{tables_test, sound_blank}

-- "Free frames 0 and 2 of 3": a run of one starts at frame 0, which comes after no space
pub starts_at_0 : free_run gap_tables 1 ≡ 0
unfolding decisions gap_tables
starts_at_0 = refl

pub after_no_space : (s : State) → AfterSpace s 0 → ⊥
after_no_space s a = omega (arith, a.follows)

-- a space of two pages has frames 0 and 1 of a sound state: a run of two starts right after it
pub pair_sound : Sound pair_tables
unfolding pair_tables tables_test tests
pair_sound = sound_blank pair_tables refl refl

pub starts_after : free_run pair_tables 2 ≡ 2
unfolding decisions pair_tables
starts_after = refl

pub after_space : AfterSpace pair_tables 2
unfolding decisions pair_tables
after_space = record { slot = 0; page = 1; low = omega arith; live = omega arith; last = refl; follows = refl }

-- frame 1 comes after its first frame, not after its last, and frame 3 after none of its frames
pub not_after : (f : ℕ) → (f ≡ 2 → ⊥) → AfterSpace pair_tables f → ⊥
unfolding decisions pair_tables
not_after f n a = go a.slot a.low a.live a.last a.follows
  where
    go : (u : ℕ) → u < slot_count → Live pair_tables.spaces u → a.page + 1 ≡ (space_at pair_tables.spaces u).pages → frame_of (layout pair_tables) u a.page + 1 ≡ f → ⊥
    go zero low l p e = n (omega (arith, p, e))
    go (suc u) low l p e = omega (arith, ap (λ (x : Space). x.id) (get_or-replicate 31 u no_space no_space (omega arith)), l)

-- the law itself, of these tables
pub law_met : StartsAt pair_tables (free_run pair_tables 2)
unfolding pair_tables
law_met = free_run_starts pair_tables 2 (omega (arith, starts_after))
