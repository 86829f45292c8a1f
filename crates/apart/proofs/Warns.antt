-- Loops that add up clashes. Assumes nothing.
use Prim.Native.Nat.{ℕ, ◌+◌, ◌*◌, ◌≤◌, ◌<◌}
use mathlib.Core.Logic.{◌≢◌}
use mathlib.Core.Path.{◌≡◌}
use native.Mathlib.Decide.{ℕ_discrete}
use native.Mathlib.Omega.{arith}
use lib.ListN.{get_or}
use Rattle.apart.specs.declared.quick.Columns.{Columns}
use Rattle.apart.specs.Warns.{Warns, Below, Parted, ClearIn}

-- a sum r of i counts, each at most m, out of e; where it is 0, P holds of each of the numbers below i
pub record Sum (P : ℕ → Type 0) (m e i r : ℕ) : Type 0 where
  pub below : i ≤ e
  pub warns : Warns (Below i P) (i * m) r

module _ (P : ℕ → Type 0) (m e : ℕ) where
  pub sum_start : Sum P m e 0 0
  sum_start = record { below = omega arith; warns = record { most = omega arith; none = λ _ k l. absurd (omega arith) } }

  module _ (i r : ℕ) (s : Sum P m e i r) where
    pub sum_go : (x : ℕ) → i < e → Warns (P i) m x → Sum P m e (i + 1) (r + x)
    sum_go x l w = record {
      below = omega arith;
      warns = record {
        most = omega (arith, s.warns.most, w.most);
        none = λ z k b. at z k b (ℕ_discrete k i);
      };
    }
      where
        at : r + x ≡ 0 → (k : ℕ) → k < i + 1 → Dec (k ≡ i) → P k
        at z k b (yes q) = rw q (w.none (omega arith))
        at z k b (no q) = s.warns.none (omega arith) k (omega arith)

    pub sum_end : (t : ℕ) → e * m ≡ t → e ≤ i → Warns (Below e P) t r
    sum_end t w l = let q : i ≡ e = omega arith in rw w at (rw q at s.warns)

-- the three counts of one pair
module _ (c : Columns) (u v : ℕ) where
  pub pair_warns : (i k f : ℕ) → Warns (get_or c.ids u 0 ≢ get_or c.ids v 0) 1 i → Warns (get_or c.names u 0 ≢ get_or c.names v 0) 1 k → Warns (Parted (get_or c.firsts u 0) (get_or c.ends u 0) (get_or c.firsts v 0) (get_or c.ends v 0)) 1 f → Warns (ClearIn c u v) 3 (i + k + f)
  pair_warns i k f a b w = record {
    most = omega (arith, a.most, b.most, w.most);
    none = λ z. record { id = a.none (omega arith); name = b.none (omega arith); frames = w.none (omega arith) };
  }

pub ruleset sums = (sum_start, sum_go, sum_end, pair_warns)
