-- What a call sees of the tables.
use Rattle.std.specs.Prelude.{ℕ, ◌+◌, ◌*◌, ◌/◌, ◌%◌, get_or}
use Rattle.lookup.specs.Rows.{row_of, place_by, slot_row}
use Rattle.model.specs.declared.Entry.{Entry}
use Rattle.model.specs.declared.Guest.{Guest}
use Rattle.model.specs.declared.Space.{Space}
use Rattle.model.specs.declared.State.{State}
use Rattle.model.specs.Sizes.{frame_size, max_frames}
use Rattle.model.specs.Tables.{no_guest, no_permit, unused_entry, space_at, cpu_at, cell_at}
use Rattle.translation.specs.Translated.{token_place}
use Rattle.asks.specs.declared.Asks.{Asks}
use Rattle.views.specs.declared.View.{View}
use Rattle.views.specs.Token.{token_by}
use Rattle.views.specs.Search.{slot_for}
use Rattle.views.specs.Taking.{free_for, free_place}

abbrev pub row_at : State → (guest : ℕ) → Guest
row_at s g = get_or s.guests (row_of g) no_guest

-- the token, its entry, and the slot of the space, in this order
abbrev pub token_seen : State → Asks → ℕ
token_seen s a = token_by a.uses (cpu_at s.cpus (row_of a.caller))

abbrev pub entry_seen : State → Asks → Entry
entry_seen s a = get_or s.entries (token_place (row_of a.caller) (token_seen s a)) unused_entry

abbrev pub slot_seen : State → Asks → ℕ
slot_seen s a = slot_for a (token_seen s a) (entry_seen s a) s.spaces

abbrev pub free_seen : State → Asks → ℕ
free_seen s a = free_for a.takes (row_at s a.caller).list s.entries (row_of a.caller)

-- where the cell of a page of a space stands; a page that the space has lies in a frame below 512
unfoldable pub cell_place : Space → (page : ℕ) → ℕ
cell_place x p = (x.first + p) % max_frames

abbrev pub space_seen : State → Asks → Space
space_seen s a = space_at s.spaces (slot_row (slot_seen s a))

unfoldable pub view_of : State → Asks → View
view_of s a = record {
  place = place_by (row_at s a.caller) a.caller;
  guest = row_at s a.caller;
  other = place_by (row_at s a.other) a.other;
  token = token_seen s a;
  entry = entry_seen s a;
  slot = slot_seen s a;
  space = space_seen s a;
  permit = get_or s.permits (slot_row (slot_seen s a) * 8 + row_of a.other) no_permit;
  free = free_seen s a;
  unused = get_or s.entries (free_place (row_of a.caller) (free_seen s a)) unused_entry;
  guard = record {
    key = (cpu_at s.cpus (row_of a.caller)).key;
    block = cell_at s.cells (cell_place (space_seen s a) (a.address / frame_size));
    beyond = cell_at s.cells (cell_place (space_seen s a) (a.address / frame_size + 1));
  };
}
