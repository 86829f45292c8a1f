-- The loops that put the frames of live spaces out of the way: of one space, and of all. Assumes nothing.
use Prim.Native.Nat.{ℕ, ◌+◌, ◌-◌, ◌≤◌, ◌<◌}
use mathlib.Core.Bool.{Bool, true, false, not}
use mathlib.Core.List.{List}
use mathlib.Core.Path.{◌≡◌, refl, sym, ap, ◌∙◌}
use native.Mathlib.Decide.{dec_le}
use native.Mathlib.Omega.{arith}
use lib.ListN.{length, get_or, set, length-set}
use Rattle.lists.specs.Choice.{both, choose, implies}
use Rattle.lists.specs.Decides.{Decides}
use Rattle.lists.specs.Places.{every}
use Rattle.lists.proofs.Choice.{not_so, yes!, no! }
use Rattle.lists.proofs.Decides.{d_not, d_implies, every_more}
use Rattle.lists.proofs.Maps.{at_set}
use Rattle.lists.proofs.Places.{every_intro, every_same}
use Rattle.model.specs.declared.Space.{Space}
use Rattle.model.specs.Frames.{has_frame, frame_free}
use Rattle.model.specs.Tables.{space_at, live}
use Rattle.model.proofs.Runs.{d_in_run, has_run}
use Rattle.model.proofs.Searches.{d_live}
use Rattle.permitted.specs.Columns.{Filled}
use Rattle.cells.specs.Left.{Cleared, outside, left_by, left_at, Fits, AllFit}

abbrev Outside : Space → ℕ → Type 0
Outside x f = 1 ≤ x.id → (x.first ≤ f) × (f < x.first + x.pages) → ⊥

d_outside : (x : Space) (f : ℕ) → Decides (outside x f) (Outside x f)
unfolding outside
d_outside x f = d_implies (d_live x) (d_not (d_in_run x.first x.pages f))

clear_one : (vs : List ℕ) (f : ℕ) → 512 ≤ length vs → f < 512 → Cleared vs (set vs f 0) f (f + 1)
clear_one vs f len l = record {
  long = omega (arith, length-set vs f 0);
  gone = λ k a b. at_set (λ y. y ≡ 0) vs f 0 k 0 (omega arith) (λ _. refl) (λ q. absurd (omega arith));
  kept = λ k o. at_set (λ y. y ≡ get_or vs k 0) vs f 0 k 0 (omega arith) (λ q. absurd (o (omega arith) (omega arith))) (λ _. refl);
}

-- two runs that meet or overlap are one
module _ (ws vs ys : List ℕ) (first f g end : ℕ) (h : Cleared ws vs first f) (n : Cleared vs ys g end) where
  clear_join : first ≤ g → g ≤ f → f ≤ end → Cleared ws ys first end
  clear_join low meet high = record {
    long = n.long;
    gone = λ k a b. go k a b (dec_le g k);
    kept = λ k o. n.kept k (λ a b. o (omega arith) b) ∙ h.kept k (λ a b. o a (omega arith));
  }
    where
      go : (k : ℕ) → first ≤ k → k < end → Dec (g ≤ k) → get_or ys k 0 ≡ 0
      go k a b (yes l) = n.gone k l b
      go k a b (no l) = n.kept k (λ c _. l c) ∙ h.gone k a (omega arith)

-- the loop over a run: so far up to f
pub record Clearing (ws vs : List ℕ) (first end f : ℕ) : Type 0 where
  pub low : first ≤ f
  pub high : f ≤ end
  pub inside : end ≤ 512
  pub cleared : Cleared ws vs first f

pub clear_start : (ws : List ℕ) (first end : ℕ) → 512 ≤ length ws → first ≤ end → end ≤ 512 → Clearing ws ws first end first
clear_start ws first end len low high = record {
  low = omega arith;
  high = low;
  inside = high;
  cleared = record { long = len; gone = λ k a b. absurd (omega arith); kept = λ k _. refl };
}

module _ (ws vs : List ℕ) (first end f : ℕ) (h : Clearing ws vs first end f) where
  pub clear_go : f < end → Clearing ws (set vs f 0) first end (f + 1)
  clear_go l = record {
    low = omega (arith, h.low);
    high = omega arith;
    inside = h.inside;
    cleared = clear_join ws vs (set vs f 0) first f f (f + 1) h.cleared (clear_one vs f h.cleared.long (omega (arith, h.inside))) h.low (omega arith) (omega arith);
  }

  pub clear_end : end ≤ f → Cleared ws vs first end
  clear_end l = let q : f ≡ end = omega (arith, h.high) in rw q at h.cleared

-- the frames of one space
module _ (ws : List ℕ) (x : Space) where
  pub frames_none : 512 ≤ length ws → x.id ≡ 0 → Filled ws (left_by x ws) 512
  frames_none len e = record { long = len; at = λ k _. sym (yes! _ 0 ((d_outside x k).of (λ l _. omega arith))) }

  pub frames_inside : Fits x → (x.id ≡ 0 → ⊥) → x.first + x.pages ≤ 512
  frames_inside fits n = fits.inside (omega arith)

  pub front_inside : Fits x → (x.id ≡ 0 → ⊥) → 16 ≤ x.pages → x.first + 16 ≤ 512
  front_inside fits n l = omega (arith, frames_inside fits n)

  module _ (n : x.id ≡ 0 → ⊥) (vs : List ℕ) where
    pub frames_gone : Cleared ws vs x.first (x.first + x.pages) → Filled vs (left_by x ws) 512
    frames_gone c = record { long = c.long; at = λ k _. go k (dec_le x.first k) (dec_le (x.first + x.pages) k) }
      where
        out : (k : ℕ) → (x.first ≤ k → k < x.first + x.pages → ⊥) → get_or vs k 0 ≡ left_by x ws k
        out k o = c.kept k o ∙ sym (yes! _ 0 ((d_outside x k).of (λ _ (a, b). o a b)))

        go : (k : ℕ) → Dec (x.first ≤ k) → Dec (x.first + x.pages ≤ k) → get_or vs k 0 ≡ left_by x ws k
        go k (no a) d = out k (λ b _. a b)
        go k (yes a) (yes b) = out k (λ _ d. omega arith)
        go k (yes a) (no b) = c.gone k a (omega arith) ∙ sym (no! (get_or ws k 0) _ (not_so _ (λ e. (d_outside x k).to e (omega arith) (a, omega arith))))

    pub frames_twice : (ys : List ℕ) → Cleared ws ys x.first (x.first + 16) → Cleared ys vs (x.first + x.pages - 16) (x.first + x.pages) → 16 ≤ x.pages → x.pages ≤ 32 → Filled vs (left_by x ws) 512
    frames_twice ys a b low high =
        frames_gone (clear_join ws ys vs x.first (x.first + 16) (x.first + x.pages - 16) (x.first + x.pages) a b (omega arith) (omega arith) (omega arith))

pub fits_at : (ss : List Space) (u : ℕ) → AllFit ss → u < 32 → Fits (space_at ss u)
fits_at ss u h l = h.at u l

-- the frames of a space as the model has them
outside_is : (ss : List Space) (u f : ℕ) → outside (space_at ss u) f ≡ implies (live (space_at ss u)) (not (has_frame ss ss u f))
unfolding outside
outside_is ss u f = ap (λ b. implies (live (space_at ss u)) (not b)) (sym (has_run ss u f))

choose_both : (a b : Bool) (w : ℕ) → choose b (choose a w 0) 0 ≡ choose (both a b) w 0
unfolding choose both
choose_both true b w = refl
choose_both false true w = refl
choose_both false false w = refl

-- so far: the slots below u
pub record Used (ss : List Space) (ws vs : List ℕ) (u : ℕ) : Type 0 where
  pub below : u ≤ 32
  pub left : Filled vs (λ f. choose (every (λ v. outside (space_at ss v) f) u) (get_or ws f 0) 0) 512

module _ (ss : List Space) (ws : List ℕ) where
  pub used_start : 512 ≤ length ws → Used ss ws ws 0
  used_start len = record {
    below = omega arith;
    left = record { long = len; at = λ f _. sym (yes! _ 0 (every_intro _ 0 (λ k l. absurd (omega arith)))) };
  }

  module _ (vs : List ℕ) (u : ℕ) (h : Used ss ws vs u) where
    pub used_go : (ys : List ℕ) → u < 32 → Filled ys (left_by (space_at ss u) vs) 512 → Used ss ws ys (u + 1)
    used_go ys l c = record {
      below = omega arith;
      left = record {
        long = c.long;
        at = λ f b.
            c.at f b
            ∙ ap (λ w. choose (outside (space_at ss u) f) w 0) (h.left.at f b)
            ∙ choose_both _ (outside (space_at ss u) f) (get_or ws f 0)
            ∙ ap (λ t. choose t (get_or ws f 0) 0) (sym (every_more (λ v. outside (space_at ss v) f) u));
      };
    }

    pub used_end : 32 ≤ u → Filled vs (left_at ss ws) 512
    unfolding frame_free
    used_end l =
        let q : u ≡ 32 = omega (arith, h.below) in
        record {
          long = h.left.long;
          at = λ f b.
              h.left.at f b
              ∙ ap (λ n. choose (every (λ v. outside (space_at ss v) f) n) (get_or ws f 0) 0) q
              ∙ ap (λ t. choose t (get_or ws f 0) 0) (every_same _ _ 32 (λ v _. outside_is ss v f));
        }
