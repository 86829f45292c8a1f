-- The bytes of a space: what a fetch reads, what a store and a clearing change, and that all other live spaces keep theirs.
-- Assumes nothing.
use Prim.Native.Nat.{ℕ, ◌+◌, ◌-◌, ◌*◌, ◌/◌, ◌≤◌, ◌<◌}
use mathlib.Core.Bool.{Bool}
use mathlib.Core.List.{List}
use mathlib.Core.Logic.{◌≢◌}
use mathlib.Core.Path.{◌≡◌, sym, ap, ◌∙◌}
use native.Mathlib.Decide.{dec_le}
use native.Mathlib.Omega.{arith}
use lib.ListN.{length, get_or, replicate, length-replicate, get_or-replicate}
use lib.Seq.{ext_get_or}
use Rattle.lists.specs.Bytes.{over, part, put, get}
use Rattle.lists.proofs.Bytes.{length-get, get_or-get, get_part, get_put, get_agree, put_off, put_on, length-over, over_before, over_inside, over_after}
use Rattle.model.specs.declared.State.{State}
use Rattle.model.specs.Frames.{layout, place_of, size_of, bytes_of, has_frame}
use Rattle.model.specs.Lawful.{Inside, Spares, Covers}
use Rattle.model.specs.Sound.{Live, Sound}
use Rattle.model.specs.Step.{clear_frames}
use Rattle.model.proofs.Addresses.{place_inside, place_apart, place_frame, covers_own}
use Rattle.model.proofs.Clearing.{clears_off, clears_on}

module _ (s : State) where
  abbrev at : ℕ → ℕ → ℕ
  at u = place_of (layout s) u

  pub length-bytes_of : (u : ℕ) (m : List ℕ) → length (bytes_of s u m) ≡ size_of s.spaces u
  unfolding bytes_of
  length-bytes_of u m = length-get (at u) 0 (size_of s.spaces u) m

  pub get_or-bytes_of : (u k : ℕ) (m : List ℕ) → k < size_of s.spaces u → get_or (bytes_of s u m) k 0 ≡ get_or m (at u k) 0
  unfolding bytes_of
  get_or-bytes_of u k m h =
      get_or-get (at u) 0 (size_of s.spaces u) k m h ∙ ap (λ x. get_or m (at u x) 0) (omega arith)

  -- a fetch reads the named bytes of the space
  pub fetch_bytes : (u a n : ℕ) (m : List ℕ) → Inside s u a n → get (at u) a n m ≡ part (bytes_of s u m) a n
  unfolding bytes_of
  fetch_bytes u a n m i = get_part (at u) (size_of s.spaces u) a n m i.fits

  -- clearing frames: a space with none of them keeps its bytes, one whose frames are all among them is zeroed
  module _ (fs : ℕ → Bool) (m : List ℕ) (u : ℕ) where
    pub clear_spared : Spares s fs u → bytes_of s u (clear_frames fs m) ≡ bytes_of s u m
    unfolding bytes_of
    clear_spared h =
        get_agree (at u) 0 (size_of s.spaces u) (clear_frames fs m) m (λ k _ l. clears_off fs m (at u k) (ap fs (place_frame (layout s) u k) ∙ h (k / 4096) (omega arith)))

    pub clear_covered : Covers s fs u → bytes_of s u (clear_frames fs m) ≡ replicate (size_of s.spaces u) 0
    clear_covered h =
        ext_get_or 0 (bytes_of s u (clear_frames fs m)) (replicate (size_of s.spaces u) 0)
        (length-bytes_of u (clear_frames fs m) ∙ sym (length-replicate {A = ℕ} (size_of s.spaces u) 0)) (λ k l.
        let b : k < size_of s.spaces u = rw (length-bytes_of u (clear_frames fs m)) at l in
        get_or-bytes_of u k (clear_frames fs m) b
        ∙ clears_on fs m (at u k) (ap fs (place_frame (layout s) u k) ∙ h (k / 4096) (omega arith))
        ∙ sym (get_or-replicate (size_of s.spaces u) k 0 0 b))

  -- so clearing the frames of a space zeroes it
  pub clear_own : (u : ℕ) (m : List ℕ) → bytes_of s u (clear_frames (has_frame (layout s) s.spaces u) m) ≡ replicate (size_of s.spaces u) 0
  clear_own u m = clear_covered (has_frame (layout s) s.spaces u) m u (covers_own s u)

  -- In a sound state no two live spaces share a place.
  module _ (ok : Sound s) where
    inside : (u a : ℕ) → Live s.spaces u → a < size_of s.spaces u → at u a < s.frames * 4096
    inside = place_inside s.frames s.next s.guests s.spaces (layout s) ok.spaces

    apart : (u v a b : ℕ) → Live s.spaces u → Live s.spaces v → a < size_of s.spaces u → b < size_of s.spaces v → at u a ≡ at v b → (u ≡ v) × (a ≡ b)
    apart = place_apart s.frames s.next s.guests s.spaces (layout s) ok.spaces

    module _ (u a : ℕ) (b m : List ℕ) (i : Inside s u a (length b)) where
      own_apart : (j k : ℕ) → a ≤ j → j < k → k < a + length b → at u j ≢ at u k
      own_apart j k x y z e = let q = (apart u u j k i.live i.live (omega (arith, i.fits)) (omega (arith, i.fits)) e).1 in omega arith

      own_inside : length m ≡ s.frames * 4096 → (k : ℕ) → a ≤ k → k < a + length b → at u k < length m
      own_inside len k x z = rw len (inside u k i.live (omega (arith, i.fits)))

      -- what was stored is fetched
      pub store_fetch : length m ≡ s.frames * 4096 → get (at u) a (length b) (put (at u) a b m) ≡ b
      store_fetch len = get_put (at u) a b m own_apart (own_inside len)

      -- a store changes no byte of scratch but those named
      pub store_off : (v k : ℕ) → Live s.spaces v → k < size_of s.spaces v → ((v ≡ u) × (a ≤ k) × (k < a + length b) → ⊥) → get_or (put (at u) a b m) (at v k) 0 ≡ get_or m (at v k) 0
      store_off v k lv h away =
          put_off (at u) a b m (at v k) (λ j x z e.
          let q = apart v u k j lv i.live h (omega (arith, i.fits)) e in
          away (q.0, omega (arith, q.1), omega (arith, q.1)))

      pub store_other : (v : ℕ) → Live s.spaces v → v ≢ u → bytes_of s v (put (at u) a b m) ≡ bytes_of s v m
      unfolding bytes_of
      store_other v lv ne =
          get_agree (at v) 0 (size_of s.spaces v) (put (at u) a b m) m (λ k _ h. store_off v k lv (omega arith) (λ q. ne q.0))

      -- and in its own space replaces just these
      pub store_own : length m ≡ s.frames * 4096 → bytes_of s u (put (at u) a b m) ≡ over (bytes_of s u m) a b
      store_own len =
          ext_get_or 0 (bytes_of s u (put (at u) a b m)) (over (bytes_of s u m) a b)
          (length-bytes_of u (put (at u) a b m) ∙ sym (length-over (bytes_of s u m) a b fits ∙ length-bytes_of u m)) (λ k l.
          let h : k < size_of s.spaces u = rw (length-bytes_of u (put (at u) a b m)) at l in
          get_or-bytes_of u k (put (at u) a b m) h ∙ go k h (dec_le a k) (dec_le (a + length b) k))
        where
          fits : a + length b ≤ length (bytes_of s u m)
          fits = rw (length-bytes_of u m) i.fits

          go : (k : ℕ) → k < size_of s.spaces u → Dec (a ≤ k) → Dec (a + length b ≤ k) → get_or (put (at u) a b m) (at u k) 0 ≡ get_or (over (bytes_of s u m) a b) k 0
          go k h (no x) d = store_off u k i.live h (λ q. x q.1) ∙ sym (over_before (bytes_of s u m) a b k 0 fits (omega arith) ∙ get_or-bytes_of u k m h)
          go k h (yes x) (yes z) =
              store_off u k i.live h (λ q. absurd (omega (arith, q.2))) ∙ sym (over_after (bytes_of s u m) a b k 0 fits z ∙ get_or-bytes_of u k m h)
          go k h (yes x) (no z) =
              let e : a + (k - a) ≡ k = omega arith in
              let l : k - a < length b = omega arith in
              (rw e at (put_on (at u) a b m own_apart (own_inside len) (k - a) l)) ∙ sym (rw e at (over_inside (bytes_of s u m) a b (k - a) 0 fits l))
