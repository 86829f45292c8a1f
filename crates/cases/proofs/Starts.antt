-- Start states built by hand are sound. Check 1 walks 32 slots for each of 512 cells, which goes past the step limit: where all
-- cells are blank its test of them is answered by a law, and the others are computed. Assumes nothing.
use Prim.Native.Nat.{ℕ}
use mathlib.Core.Bool.{Bool, true}
use mathlib.Core.Path.{◌≡◌, ap}
use native.Mathlib.Omega.{arith}
use lib.ListN.{replicate, length-replicate, get_or-replicate}
use Rattle.lists.specs.Choice.{both}
use Rattle.lists.specs.Decides.{Decides}
use Rattle.lists.proofs.Decides.{d_both}
use Rattle.model.specs.declared.Space.{Space}
use Rattle.model.specs.declared.State.{State}
use Rattle.model.specs.Frames.{layout}
use Rattle.model.specs.Sizes.{slot_count, max_frames}
use Rattle.model.specs.Sound.{HeadOk, SpacesOk, GuestsOk, PermitsOk, EntriesOk, Sound}
use Rattle.model.specs.SoundTest.{head_test, spaces_test, guests_test, permits_test, entries_test}
use Rattle.model.specs.Tables.{no_space, no_cell, cell_at}
use Rattle.model.proofs.Fresh.{bare_cells, sound_empty}
use Rattle.model.proofs.SoundTest.{head_decides, spaces_decides, guests_decides, permits_decides, entries_decides}

-- the test of soundness but for its part on cells
unfoldable pub tables_test : State → Bool
tables_test s =
    both (head_test s.frames s.next)
    (both (spaces_test s.frames s.next s.guests s.spaces)
    (both (guests_test s.spaces s.guests s.cpus)
    (both (permits_test s.guests s.spaces s.permits) (entries_test s.guests s.spaces s.permits s.entries))))

-- in the empty tables every frame is free, and they are sound: so each of their cells reads as blank
blank_cell : (f : ℕ) → cell_at (replicate max_frames no_cell) f ≡ no_cell
blank_cell f =
    (sound_empty 1 (omega arith) (omega arith)).cells.free f
    (λ u b live _. omega (arith, ap (λ (x : Space). x.id) (get_or-replicate slot_count u no_space no_space b)))

module _ (s : State) where
  abbrev TablesOk : Type 0
  TablesOk =
      HeadOk s.frames s.next
      × (SpacesOk s.frames s.next s.guests s.spaces (layout s)
      × (GuestsOk s.spaces s.guests s.cpus
      × (PermitsOk s.guests s.spaces s.permits × EntriesOk s.guests s.spaces s.permits s.entries)))

  tables_decide : Decides (tables_test s) TablesOk
  unfolding tables_test
  tables_decide =
      d_both (head_decides s.frames s.next)
      (d_both (spaces_decides s.frames s.next s.guests s.spaces)
      (d_both (guests_decides s.spaces s.guests s.cpus)
      (d_both (permits_decides s.guests s.spaces s.permits) (entries_decides s.guests s.spaces s.permits s.entries))))

  pub sound_blank : s.cells ≡ replicate max_frames no_cell → tables_test s ≡ true → Sound s
  sound_blank blank e = go (tables_decide.to e)
    where
      go : TablesOk → Sound s
      go (head, (spaces, (guests, (permits, entries)))) = record {
        head = head;
        spaces = spaces;
        guests = guests;
        permits = permits;
        entries = entries;
        cells = rw blank (bare_cells s.spaces (layout s) (replicate max_frames no_cell) (length-replicate max_frames no_cell) blank_cell);
      }
