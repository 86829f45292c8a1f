-- A search by a test that decides a statement finds the lowest of which the statement holds. Assumes nothing.
use Prim.Native.Nat.{ℕ, ◌≤◌, ◌<◌}
use mathlib.Core.Bool.{Bool}
use native.Mathlib.Omega.{arith}
use Rattle.lists.specs.Decides.{Decides}
use Rattle.lists.specs.Lowest.{Lowest}
use Rattle.lists.specs.Places.{lowest}
use Rattle.lists.proofs.Places.{lowest_holds, lowest_bound}

pub lowest_decided : (p : ℕ → Bool) (P : ℕ → Type 0) (n : ℕ) → ((i : ℕ) → i < n → Decides (p i) (P i)) → Lowest P n (lowest p n)
lowest_decided p P n dec = record {
  found = λ l. (dec (lowest p n) l).to (lowest_holds p n l);
  least = bound;
  none = λ l i b h. omega (arith, bound i b h);
}
  where
    bound : (i : ℕ) → i < n → P i → lowest p n ≤ i
    bound i b h = lowest_bound p n i ((dec i b).of h)
