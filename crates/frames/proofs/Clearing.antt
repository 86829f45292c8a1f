-- The frames of a run are one part of scratch: filled with zeros as one. Assumes nothing.
use Prim.Native.Nat.{ℕ, ◌+◌, ◌-◌, ◌*◌, ◌/◌, ◌≤◌, ◌<◌}
use mathlib.Core.List.{List, ◌++◌}
use mathlib.Core.Path.{◌≡◌, sym, ◌∙◌}
use native.Mathlib.Decide.{dec_le}
use native.Mathlib.Omega.{arith}
use lib.ListN.{length, get_or, take, drop, replicate, length-take, length-drop, length-replicate, get_or-replicate}
use lib.Seq.{ext_get_or}
use Rattle.lists.specs.Bytes.{over}
use Rattle.lists.proofs.Bytes.{length-over, over_before, over_inside, over_after, over_lent}
use Rattle.lists.proofs.Choice.{not_so}
use Rattle.model.specs.Leaves.{in_run}
use Rattle.model.specs.Step.{clear_frames}
use Rattle.model.proofs.Clearing.{length-clear_frames, clears_on, clears_off}
use Rattle.model.proofs.Runs.{d_in_run}

module _ (first n : ℕ) (m : List ℕ) (fits : first * 4096 + n * 4096 ≤ length m) where
  abbrev zeros : List ℕ
  zeros = replicate (n * 4096) 0

  abbrev cleared : List ℕ
  cleared = clear_frames (in_run first n) m

  long : length zeros ≡ n * 4096
  long = length-replicate {A = ℕ} (n * 4096) 0

  room : first * 4096 + length zeros ≤ length m
  room = rw long fits

  outside : (i : ℕ) → ((first * 4096 ≤ i) × (i < first * 4096 + n * 4096) → ⊥) → get_or cleared i 0 ≡ get_or m i 0
  outside i away = clears_off _ m i (not_so _ (λ t. let (low, high) = (d_in_run first n (i / 4096)).to t in away (omega arith, omega arith)))

  inside : (i : ℕ) → first * 4096 ≤ i → i < first * 4096 + n * 4096 → get_or cleared i 0 ≡ 0
  inside i l u = clears_on _ m i ((d_in_run first n (i / 4096)).of (omega arith, omega arith))

  clear_run : over m (first * 4096) zeros ≡ cleared
  clear_run =
      ext_get_or 0 (over m (first * 4096) zeros) cleared (length-over m (first * 4096) zeros room ∙ sym (length-clear_frames _ m)) (λ i _.
      go i (dec_le (first * 4096) i) (dec_le (first * 4096 + n * 4096) i))
    where
      go : (i : ℕ) → Dec (first * 4096 ≤ i) → Dec (first * 4096 + n * 4096 ≤ i) → get_or (over m (first * 4096) zeros) i 0 ≡ get_or cleared i 0
      go i (no l) d = over_before m (first * 4096) zeros i 0 room (omega arith) ∙ sym (outside i (λ h. l h.0))
      go i (yes l) (yes u) = over_after m (first * 4096) zeros i 0 room (rw long u) ∙ sym (outside i (λ h. absurd (omega (arith, h.1))))
      go i (yes l) (no u) =
          let e : first * 4096 + (i - first * 4096) ≡ i = omega arith in
          let b : i - first * 4096 < n * 4096 = omega arith in
          (rw e at (over_inside m (first * 4096) zeros (i - first * 4096) 0 room (rw long b)))
          ∙ get_or-replicate (n * 4096) (i - first * 4096) 0 0 b
          ∙ sym (inside i l (omega arith))

  -- for search: the part that is lent is long enough, and comes back cleared
  pub clear_fits : n * 4096 ≤ length (take (length m - first * 4096) (drop (first * 4096) m))
  clear_fits = simp (length-take, length-drop) (omega (arith, fits))

  pub clear_done : (y : List ℕ) → y ≡ over (take (length m - first * 4096) (drop (first * 4096) m)) 0 zeros
      → take (first * 4096) m ++ (y ++ drop (length m - first * 4096) (drop (first * 4096) m)) ≡ cleared
  clear_done y z = over_lent m zeros y (first * 4096) z ∙ clear_run
