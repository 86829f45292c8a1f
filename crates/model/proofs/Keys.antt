-- The rule of keys: what it says of one block, of an access block by block, and of one that lies in two blocks at most. Assumes
-- nothing.
use Prim.Native.Nat.{ℕ, ◌+◌, ◌-◌, ◌*◌, ◌/◌, ◌≤◌, ◌<◌}
use mathlib.Core.Bool.{Bool, true, false}
use mathlib.Core.Logic.{◌⊎◌, inl, inr}
use mathlib.Core.Path.{◌≡◌, refl, sym}
use native.Mathlib.Decide.{ℕ_discrete}
use native.Mathlib.Omega.{arith}
use Rattle.lists.specs.Choice.{both}
use Rattle.lists.specs.Decides.{Decides}
use Rattle.lists.proofs.Choice.{true_false, not_so, both_left, both_right, both_intro}
use Rattle.lists.proofs.Decides.{d_eq, d_isnt, d_both, d_either, d_map, d_every}
use Rattle.model.specs.declared.Cell.{Cell}
use Rattle.model.specs.declared.State.{State}
use Rattle.model.specs.Frames.{layout, frame_of}
use Rattle.model.specs.Keys.{allows_key, block_at, key_permits}
use Rattle.model.specs.Sizes.{frame_size}
use Rattle.model.specs.Tables.{cell_at}

-- "a store is allowed if the access key is 0 or equals the block's; a fetch also if the mark is off"
abbrev pub KeyAllows : (storing : Bool) (key : ℕ) → Cell → Type 0
KeyAllows storing k c = ((k ≡ 0) ⊎ (k ≡ c.key)) ⊎ ((storing ≡ false) × (c.mark ≡ false))

pub block_decides : (storing : Bool) (k : ℕ) (c : Cell) → Decides (allows_key storing k c) (KeyAllows storing k c)
unfolding allows_key
block_decides storing k c = d_either (d_either (d_eq k 0) (d_eq k c.key)) (d_both (d_isnt storing) (d_isnt c.mark))

module _ (s : State) (storing : Bool) (k u a n : ℕ) where
  -- byte by byte
  pub keys_decide : Decides (key_permits s storing k u a n) ((i : ℕ) → i < n → KeyAllows storing k (block_at s u (a + i)))
  unfolding key_permits
  keys_decide = d_every n (λ i. block_decides storing k (block_at s u (a + i)))

  -- "An access across several blocks needs all of them to allow it": page by page, from that of its first byte to that of its last
  pub access_decides : 1 ≤ n → Decides (key_permits s storing k u a n) ((p : ℕ) → a / frame_size ≤ p → p * frame_size < a + n → KeyAllows storing k (cell_at s.cells (frame_of (layout s) u p)))
  access_decides some = d_map (λ h p low high. go h p low high (ℕ_discrete p (a / frame_size))) (λ h i b. h ((a + i) / frame_size) (omega arith) (omega arith)) keys_decide
    where
      at : ((i : ℕ) → i < n → KeyAllows storing k (block_at s u (a + i))) → (i p : ℕ) → i < n → (a + i) / frame_size ≡ p → KeyAllows storing k (cell_at s.cells (frame_of (layout s) u p))
      at h i p b e = rw (← e) (h i b)

      go : ((i : ℕ) → i < n → KeyAllows storing k (block_at s u (a + i))) → (p : ℕ) → a / frame_size ≤ p → p * frame_size < a + n → Dec (p ≡ a / frame_size)
          → KeyAllows storing k (cell_at s.cells (frame_of (layout s) u p))
      go h p low high (yes e) = at h 0 p some (omega arith)
      go h p low high (no e) = at h (p * frame_size - a) p (omega arith) (omega arith)

  -- no more bytes than a frame has lie in the block of the first and that of the last
  pub two_blocks : 1 ≤ n → n ≤ frame_size → key_permits s storing k u a n ≡ both (allows_key storing k (block_at s u a)) (allows_key storing k (block_at s u (a + (n - 1))))
  two_blocks some few = go (key_permits s storing k u a n) refl
    where
      first : Bool
      first = allows_key storing k (block_at s u a)

      last : Bool
      last = allows_key storing k (block_at s u (a + (n - 1)))

      each : first ≡ true → last ≡ true → (i : ℕ) → i < n → Dec ((a + i) / frame_size ≡ a / frame_size) → KeyAllows storing k (block_at s u (a + i))
      each f l i b (yes e) = rw e ((block_decides storing k (block_at s u a)).to f)
      each f l i b (no e) =
          let q : (a + i) / frame_size ≡ (a + (n - 1)) / frame_size = omega arith in
          rw q ((block_decides storing k (block_at s u (a + (n - 1)))).to l)

      go : (t : Bool) → key_permits s storing k u a n ≡ t → t ≡ both first last
      go true e =
          let h = keys_decide.to e in
          let z : a + 0 ≡ a = omega arith in
          sym (both_intro first last ((block_decides storing k (block_at s u a)).of (rw z at (h 0 some))) ((block_decides storing k (block_at s u (a + (n - 1)))).of (h (n - 1) (omega arith))))
      go false e =
          sym (not_so (both first last) (λ t. true_false (keys_decide.of (λ i b. each (both_left first last t) (both_right first last t) i b (ℕ_discrete _ _))) e))

-- who may store may fetch
module _ (s : State) (k u a n : ℕ) where
  pub store_fetches : key_permits s true k u a n ≡ true → key_permits s false k u a n ≡ true
  store_fetches e = (keys_decide s false k u a n).of (λ i b. more (block_at s u (a + i)) ((keys_decide s true k u a n).to e i b))
    where
      more : (c : Cell) → KeyAllows true k c → KeyAllows false k c
      more c (inl h) = inl h
      more c (inr h) = true_false refl h.0
