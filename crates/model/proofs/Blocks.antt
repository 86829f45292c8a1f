-- BLOCK: it keeps a sound state sound, and what a done one does. Assumes nothing.
use Prim.Native.Nat.{ℕ, ◌/◌, ◌≤◌, ◌<◌}
use mathlib.Core.Path.{◌≡◌, sym, ◌∙◌}
use native.Mathlib.Omega.{arith}
use lib.ListN.{length, length-set, set}
use Rattle.lists.proofs.Maps.{at_set}
use Rattle.model.specs.declared.Cell.{Cell}
use Rattle.model.specs.declared.State.{State}
use Rattle.model.specs.Decision.{Decision, after}
use Rattle.model.specs.Frames.{layout, frame_of, size_of}
use Rattle.model.specs.Granted.{Blocked}
use Rattle.model.specs.Searches.{slot_of}
use Rattle.model.specs.Sizes.{frame_size, slot_count, max_frames, max_key}
use Rattle.model.specs.Sound.{Live, CellsOk, Sound}
use Rattle.model.specs.Tables.{no_cell, space_at}
use Rattle.model.proofs.Searches.{slot_found}

-- a byte's page is one of its space
pub page_inside : (s : State) (u a : ℕ) → a < size_of s.spaces u → a / frame_size < (space_at s.spaces u).pages
page_inside s u a b = omega arith

module _ (s : State) (u a : ℕ) (ok : Sound s) (slot : u < slot_count) (live : Live s.spaces u) (inside : a < size_of s.spaces u) where
  abbrev frame : ℕ
  frame = frame_of (layout s) u (a / frame_size)

  pub block_place : frame < max_frames
  block_place = omega (arith, ok.spaces.inside u (a / frame_size) live (page_inside s u a inside), ok.head.frames_high)

  -- one cell set, of a frame that is not free
  pub set_cell : (c : Cell) → c.key ≤ max_key → CellsOk s.spaces (layout s) (set s.cells frame c)
  set_cell c small = record {
    len = length-set s.cells frame c ∙ ok.cells.len;
    key = λ f. at_set (λ (x : Cell). x.key ≤ max_key) s.cells frame c f no_cell room (λ _. small) (λ _. ok.cells.key f);
    free = λ f out. at_set (λ (x : Cell). x ≡ no_cell) s.cells frame c f no_cell room
        (λ e. absurd (out u slot live (a / frame_size, page_inside s u a inside, sym e)))
        (λ _. ok.cells.free f out);
  }
    where
      room : frame < length s.cells
      room = omega (arith, block_place, ok.cells.len)

-- no other clause reads cells
pub sound_block : (s : State) (g i a k m : ℕ) (d : Decision) → Sound s → k ≤ max_key → Blocked s g i a k m d → Sound (after s d)
sound_block s g i a k m d ok small done =
    let u = slot_of s.spaces i in
    rw done.is (record {
      head = ok.head;
      spaces = ok.spaces;
      guests = ok.guests;
      permits = ok.permits;
      entries = ok.entries;
      cells = set_cell s u a ok done.owning.slot (slot_found s.spaces i done.owning.slot).0 done.inside _ small;
    })
