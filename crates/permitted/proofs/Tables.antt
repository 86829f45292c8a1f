-- Loops that fill a table. Assumes nothing.
use Prim.Native.Nat.{ℕ, ◌+◌, ◌-◌, ◌*◌, ◌/◌, ◌%◌, ◌≤◌, ◌<◌}
use mathlib.Core.Bool.{Bool, true, false}
use mathlib.Core.List.{List}
use mathlib.Core.Logic.{◌≢◌}
use mathlib.Core.Path.{◌≡◌, refl, sym, ap, ap₂, ◌∙◌}
use native.Mathlib.Decide.{ℕ_discrete}
use native.Mathlib.Omega.{arith}
use lib.ListN.{length, get_or, set, length-set, replicate, get_or-replicate}
use lib.Seq.{get_or-set_other}
use Rattle.std.specs.Prelude.{◌&&◌}
use Rattle.lists.specs.Choice.{both}
use Rattle.lists.specs.Places.{all_from, every}
use borrow.Author.Tests.{eq-eqb, ne_eqb}
use Rattle.lists.proofs.Choice.{yes!, no! }
use Rattle.lists.proofs.Decides.{every_more}
use Rattle.lists.proofs.Maps.{at_set}
use Rattle.model.specs.declared.Guest.{Guest}
use Rattle.permitted.specs.Columns.{Filled, guest_on, owner_in, may_at, limit_at, power_at, Powers}
use Rattle.permitted.specs.Elements.{place_of, may_be, power_with}

-- a table of n places, of which the first i are filled
pub record Filling (t : List ℕ) (f : ℕ → ℕ) (n i : ℕ) : Type 0 where
  pub long : length t ≡ n
  pub below : i ≤ n
  pub at : (k : ℕ) → k < i → get_or t k 0 ≡ f k

module _ (t : List ℕ) (f : ℕ → ℕ) (n : ℕ) where
  pub fill_start : length t ≡ n → Filling t f n 0
  fill_start e = record { long = e; below = omega arith; at = λ k l. absurd (omega arith) }

  pub fill_go : (i v : ℕ) → i < n → v ≡ f i → Filling t f n i → Filling (set t i v) f n (i + 1)
  fill_go i v l e h = record {
    long = length-set t i v ∙ h.long;
    below = omega arith;
    at = λ k b. at_set (λ y. y ≡ f k) t i v k 0 (omega arith) (λ q. e ∙ ap f (sym q)) (λ q. h.at k (omega arith));
  }

  pub fill_end : (i m : ℕ) → m ≤ i → Filling t f n i → Filled t f m
  fill_end i m l h = record { long = omega arith; at = λ k b. h.at k (omega arith) }

pub ruleset fills = (fill_start, fill_go, fill_end)

-- a loop that holds every place against a test, to the end
pub every_none : (p : ℕ → Bool) → true ≡ every p 0
unfolding every all_from
every_none p = refl

pub every_go : (x : Bool) (p : ℕ → Bool) (n : ℕ) → x ≡ every p n → x && p n ≡ every p (n + 1)
unfolding both
every_go x p n e = both_is x (p n) ∙ ap (λ y. both y (p n)) e ∙ sym (every_more p n)
  where
    both_is : (a b : Bool) → a && b ≡ both a b
    both_is true b = refl
    both_is false b = refl

-- the table of what may be permitted: row 0 of zeros stands, then row after row
module _ (gs : List Guest) where
  pub may_start : Filling (replicate 128 0) (may_at gs) 128 8
  may_start = record {
    long = refl;
    below = omega arith;
    at = λ k l. get_or-replicate 128 k 0 0 (omega arith) ∙ sym (yes! 0 _ (eq-eqb (k / 8) 0 (omega arith)));
  }

  module _ (t : List ℕ) (i : ℕ) where
    pub may_end : 8 ≤ i → Filling t (may_at gs) 128 ((i + 1) * 8) → Filled t (may_at gs) 72
    may_end l h = fill_end t (may_at gs) 128 ((i + 1) * 8) 72 (omega arith) h

    pub may_enter : Filling t (may_at gs) 128 ((i + 1) * 8) → Filling t (may_at gs) 128 ((i + 1) * 8 + 0)
    may_enter h = let q : (i + 1) * 8 ≡ (i + 1) * 8 + 0 = omega arith in rw q at h

  module _ (t : List ℕ) (i k : ℕ) (l : i < 8) where
    pub may_go : (v : ℕ) → k < 8 → v ≡ may_be (guest_on gs i) (guest_on gs k) i k → Filling t (may_at gs) 128 ((i + 1) * 8 + k) → Filling (set t ((i + 1) * 8 + k) v) (may_at gs) 128 ((i + 1) * 8 + (k + 1))
    may_go v b e h =
        let q : (i + 1) * 8 + k + 1 ≡ (i + 1) * 8 + (k + 1) = omega arith in
        rw q at (fill_go t (may_at gs) 128 ((i + 1) * 8 + k) v (omega arith) (e ∙ cell) h)
      where
        cell : may_be (guest_on gs i) (guest_on gs k) i k ≡ may_at gs ((i + 1) * 8 + k)
        cell =
            let p : ((i + 1) * 8 + k) / 8 - 1 ≡ i = omega arith in
            let r : ((i + 1) * 8 + k) % 8 ≡ k = omega arith in
            sym (no! 0 _ (ne_eqb (((i + 1) * 8 + k) / 8) 0 (λ z. omega arith)) ∙ ap₂ (λ a b. may_be (guest_on gs a) (guest_on gs b) a b) p r)

    pub may_row : 8 ≤ k → k ≤ 8 → Filling t (may_at gs) 128 ((i + 1) * 8 + k) → Filling t (may_at gs) 128 ((i + 1 + 1) * 8)
    may_row b d h = let q : (i + 1) * 8 + k ≡ (i + 1 + 1) * 8 = omega arith in rw q at h

-- the limits, slot by slot
module _ (ms ts : List ℕ) (t : List ℕ) (u : ℕ) where
  pub limit_enter : Filling t (limit_at ms ts) 256 (u * 8) → Filling t (limit_at ms ts) 256 (u * 8 + 0)
  limit_enter h = let q : u * 8 ≡ u * 8 + 0 = omega arith in rw q at h

  pub limit_end : 32 ≤ u → Filling t (limit_at ms ts) 256 (u * 8) → Filled t (limit_at ms ts) 256
  limit_end l h = fill_end t (limit_at ms ts) 256 (u * 8) 256 (omega arith) h

  module _ (k : ℕ) (l : u < 32) where
    pub limit_go : (o : ℕ) → k < 8 → o ≡ owner_in ts u → Filling t (limit_at ms ts) 256 (u * 8 + k) → Filling (set t (u * 8 + k) (get_or ms (o * 8 + k) 0)) (limit_at ms ts) 256 (u * 8 + (k + 1))
    limit_go o b e h =
        let p : u ≡ (u * 8 + k) / 8 = omega arith in
        let r : k ≡ (u * 8 + k) % 8 = omega arith in
        let q : u * 8 + k + 1 ≡ u * 8 + (k + 1) = omega arith in
        rw q at (fill_go t (limit_at ms ts) 256 (u * 8 + k) (get_or ms (o * 8 + k) 0) (omega arith) (ap (λ x. get_or ms (x * 8 + k) 0) e ∙ ap₂ (λ v j. get_or ms (owner_in ts v * 8 + j) 0) p r) h)

    pub limit_row : 8 ≤ k → k ≤ 8 → Filling t (limit_at ms ts) 256 (u * 8 + k) → Filling t (limit_at ms ts) 256 ((u + 1) * 8)
    limit_row b d h = let q : u * 8 + k ≡ (u + 1) * 8 = omega arith in rw q at h

-- the rows of the slots below u have their powers, the others their permits
pub record Powered (ts ns ws : List ℕ) (u : ℕ) : Type 0 where
  pub long : 256 ≤ length ws
  pub done : (v k : ℕ) → v < u → k < 8 → get_or ws (v * 8 + k) 0 ≡ power_at ts v k (get_or ns (v * 8 + k) 0)
  pub left : (j : ℕ) → u * 8 ≤ j → get_or ws j 0 ≡ get_or ns j 0

module _ (ts ns : List ℕ) where
  pub power_start : 256 ≤ length ns → Powered ts ns ns 0
  power_start e = record { long = e; done = λ v k l b. absurd (omega arith); left = λ j l. refl }

  module _ (ws : List ℕ) (u : ℕ) (h : Powered ts ns ws u) where
    pub power_end : 32 ≤ u → Powers ts ns ws
    power_end l = record { at = λ v k b d. h.done v k (omega arith) d }

    pub power_go : (o at v : ℕ) → u < 32 → o ≡ owner_in ts u → at ≡ place_of o → v ≡ power_with o (get_or ws (u * 8 + at) 0) → Powered ts ns (set ws (u * 8 + at) v) (u + 1)
    power_go o at v b eo ea ev = record {
      long = omega (arith, length-set ws (u * 8 + at) v, h.long);
      done = λ w k l d. at_set (λ y. y ≡ power_at ts w k (get_or ns (w * 8 + k) 0)) ws (u * 8 + at) v (w * 8 + k) 0 (omega (arith, h.long)) (same w k d) (λ q. other w k l d (λ p r. q (omega arith)) (ℕ_discrete w u));
      left = λ j l. get_or-set_other ws (u * 8 + at) j v 0 (λ q. omega arith) ∙ h.left j (omega arith);
    }
      where
        place_at : place_of (owner_in ts u) ≡ at
        place_at = ap place_of (sym eo) ∙ sym ea

        same : (w k : ℕ) → k < 8 → w * 8 + k ≡ u * 8 + at → v ≡ power_at ts w k (get_or ns (w * 8 + k) 0)
        same w k d q =
            let p : w ≡ u = omega arith in
            let r : k ≡ at = omega arith in
            rw (p, r) (ev ∙ ap₂ power_with eo (h.left (u * 8 + at) (omega arith)) ∙ sym (yes! _ _ (eq-eqb (place_of (owner_in ts u)) at place_at)))

        other : (w k : ℕ) → w < u + 1 → k < 8 → (w ≡ u → k ≢ at) → Dec (w ≡ u) → get_or ws (w * 8 + k) 0 ≡ power_at ts w k (get_or ns (w * 8 + k) 0)
        other w k l d n (yes p) = rw p (h.left (u * 8 + k) (omega arith) ∙ sym (no! _ _ (ne_eqb (place_of (owner_in ts u)) k (λ z. n p (sym z ∙ place_at)))))
        other w k l d n (no p) = h.done w k (omega arith) d
