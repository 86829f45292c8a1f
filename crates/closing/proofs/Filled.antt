-- A run of places that is filled with one value. Assumes nothing.
use Prim.Native.Nat.{ℕ, ◌+◌, ◌-◌, ◌*◌, ◌/◌, ◌≤◌, ◌<◌}
use mathlib.Core.List.{List, ◌++◌}
use mathlib.Core.Path.{◌≡◌, refl, sym, ap, ap₂, ◌∙◌}
use native.Mathlib.Decide.{dec_le}
use native.Mathlib.Omega.{arith}
use lib.Dec.{eqb}
use lib.ListN.{length, get_or, take, drop, replicate, length-take, length-drop, length-replicate, get_or-replicate}
use lib.Seq.{ext_get_or}
use Rattle.std.proofs.lemmas.List.{drop-drop}
use Rattle.lists.specs.Bytes.{over}
use Rattle.lists.specs.Choice.{choose}
use Rattle.lists.specs.Places.{map_places}
use Rattle.lists.proofs.Bytes.{length-over, over_before, over_inside, over_after}
use Rattle.lists.proofs.Choice.{not_so, yes!, no! }
use Rattle.lists.proofs.Decides.{d_eq, same_by}
use Rattle.lists.proofs.Maps.{length-map_places, get_or-map_places, map_alike}
use Rattle.model.specs.declared.Cell.{Cell}
use Rattle.model.specs.declared.Permit.{Permit}
use Rattle.model.specs.Changes.{unpermitted, blanked}
use Rattle.model.specs.Leaves.{in_run}
use Rattle.model.specs.Tables.{no_permit, no_cell}
use Rattle.model.proofs.Runs.{d_in_run}

module _ {A : Type 0} (d : A) (i n : ℕ) (l : List A) (fits : i + n ≤ length l) where
  abbrev run : List A
  run = replicate n d

  abbrev wanted : List A
  wanted = map_places (λ j x. choose (in_run i n j) d x) l

  long : length run ≡ n
  long = length-replicate {A = A} n d

  room : i + length run ≤ length l
  room = rw long fits

  outside : (j : ℕ) → j < length l → ((i ≤ j) × (j < i + n) → ⊥) → get_or wanted j d ≡ get_or l j d
  outside j b away = get_or-map_places _ l j d b ∙ no! _ _ (not_so _ (λ t. away ((d_in_run i n j).to t)))

  inside : (j : ℕ) → j < length l → i ≤ j → j < i + n → get_or wanted j d ≡ d
  inside j b low high = get_or-map_places _ l j d b ∙ yes! _ _ ((d_in_run i n j).of (low, high))

  over_run : over l i run ≡ wanted
  over_run = ext_get_or d (over l i run) wanted (length-over l i run room ∙ sym (length-map_places _ l)) (λ j b. let low : j < length l = omega (arith, length-over l i run room, b) in go j low (dec_le i j) (dec_le (i + n) j))
    where
      go : (j : ℕ) → j < length l → Dec (i ≤ j) → Dec (i + n ≤ j) → get_or (over l i run) j d ≡ get_or wanted j d
      go j b (no low) _ = over_before l i run j d room (omega arith) ∙ sym (outside j b (λ h. low h.0))
      go j b (yes low) (yes past) = over_after l i run j d room (rw long past) ∙ sym (outside j b (λ h. absurd (omega (arith, h.1))))
      go j b (yes low) (no past) =
          let e : i + (j - i) ≡ j = omega arith in
          let h : j - i < n = omega arith in
          (rw e at (over_inside l i run (j - i) d room (rw long h)))
          ∙ get_or-replicate n (j - i) d d h
          ∙ sym (inside j b low (omega arith))

-- For search: the part that is lent, from i on and below e, comes back filled.
module _ {A : Type 0} (d : A) (i n e : ℕ) (l y : List A) (end : e ≡ i + n) (fits : e ≤ length l) (is : y ≡ replicate (length (take (e - i) (drop i l))) d) where
  lent : length (take (e - i) (drop i l)) ≡ n
  lent = simp (length-take, length-drop) (omega (arith, end, fits))

  room_lem : i + n ≤ length l
  room_lem = omega arith

  filled : take i l ++ (y ++ drop (e - i) (drop i l)) ≡ map_places (λ j x. choose (in_run i n j) d x) l
  unfolding over
  filled =
      let same : y ≡ run d i n l room_lem = is ∙ ap (λ k. replicate k d) lent in
      let rest : drop (e - i) (drop i l) ≡ drop (i + length (run d i n l room_lem)) l = drop-drop (e - i) i l ∙ ap (λ k. drop k l) (omega (arith, long d i n l room_lem, end)) in
      ap₂ (λ (a b : List A). take i l ++ (a ++ b)) same rest ∙ over_run d i n l room_lem

-- the permits of one slot are a run
slot_run : (u j : ℕ) → in_run (u * 8) 8 j ≡ eqb u (j / 8)
slot_run u j = same_by (d_in_run (u * 8) 8 j) (d_eq u (j / 8)) (λ (low, high). omega arith) (λ e. (omega arith, omega arith))

pub permits_gone : (ps y : List Permit) (u : ℕ) (p : Permit) → u < 32 → length ps ≡ 256 → p ≡ no_permit → y ≡ replicate (length (take (u * 8 + 8 - u * 8) (drop (u * 8) ps))) p
    → take (u * 8) ps ++ (y ++ drop (u * 8 + 8 - u * 8) (drop (u * 8) ps)) ≡ unpermitted (eqb u) ps
unfolding unpermitted
permits_gone ps y u p h len e is =
    filled no_permit (u * 8) 8 (u * 8 + 8) ps y refl (omega arith) (is ∙ ap (replicate _) e)
    ∙ map_alike _ _ ps (λ j x _. ap (λ t. choose t no_permit x) (slot_run u j))

pub cells_gone : (cs y : List Cell) (i n : ℕ) (x : Cell) → i + n ≤ 512 → length cs ≡ 512 → x ≡ no_cell → y ≡ replicate (length (take (i + n - i) (drop i cs))) x
    → take i cs ++ (y ++ drop (i + n - i) (drop i cs)) ≡ blanked (in_run i n) cs
unfolding blanked
cells_gone cs y i n x h len e is = filled no_cell i n (i + n) cs y refl (omega arith) (is ∙ ap (replicate _) e)
