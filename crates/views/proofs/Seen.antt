-- What has been read out of the tables, element by element, is what a call sees. Assumes nothing.
use Prim.Native.Nat.{ℕ, ◌+◌, ◌*◌, ◌/◌}
use mathlib.Core.Path.{◌≡◌, refl}
use lib.ListN.{get_or}
use Rattle.lookup.specs.Rows.{row_of, place_by, slot_row}
use Rattle.model.specs.declared.State.{State}
use Rattle.model.specs.Tables.{no_space, no_guest, no_permit, no_cpu, unused_entry, no_cell}
use Rattle.translation.specs.Translated.{token_place}
use Rattle.asks.specs.declared.Asks.{Asks}
use Rattle.views.specs.Token.{token_by}
use Rattle.views.specs.Search.{slot_for}
use Rattle.views.specs.Taking.{free_for, free_place}
use Rattle.views.specs.Views.{cell_place, view_of}

pub view_read : (s : State) (a : Asks) (row t k u column place other p b y slot free : ℕ) → row ≡ row_of a.caller
    → t ≡ token_by a.uses (get_or s.cpus row no_cpu) → k ≡ token_place row t → slot ≡ slot_for a t (get_or s.entries k unused_entry) s.spaces
    → free ≡ free_for a.takes (get_or s.guests row no_guest).list s.entries row → u ≡ slot_row slot → column ≡ row_of a.other → p ≡ free_place row free
    → place ≡ place_by (get_or s.guests row no_guest) a.caller → other ≡ place_by (get_or s.guests column no_guest) a.other
    → b ≡ cell_place (get_or s.spaces u no_space) (a.address / 4096) → y ≡ cell_place (get_or s.spaces u no_space) (a.address / 4096 + 1)
    → record {
      place = place;
      guest = get_or s.guests row no_guest;
      other = other;
      token = t;
      entry = get_or s.entries k unused_entry;
      slot = slot;
      space = get_or s.spaces u no_space;
      permit = get_or s.permits (u * 8 + column) no_permit;
      free = free;
      unused = get_or s.entries p unused_entry;
      guard = record { key = (get_or s.cpus row no_cpu).key; block = get_or s.cells b no_cell; beyond = get_or s.cells y no_cell };
    }
    ≡ view_of s a
unfolding view_of
view_read s a row t k u column place other p b y slot free r1 t1 k1 f1 n1 u1 c1 q1 p1 o1 here next = rw (here, next, p1, o1, q1, u1, n1, f1, k1, t1, c1, r1) refl
