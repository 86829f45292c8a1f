-- Who loses entries where one space is closed, and the tables then.
use Rattle.std.specs.Prelude.{ℕ, Bool, not, eqb}
use Rattle.lists.specs.Choice.{both}
use Rattle.model.specs.declared.State.{State}
use Rattle.model.specs.Changes.{unpermitted, revoked_all}
use Rattle.model.specs.Tables.{with_permits, with_entries}

-- whether a guest loses an entry, by the slot that the entry names: every guest but the kept one, for the slot alone
unfoldable pub loses_slot : (kept slot : ℕ) → (guest named : ℕ) → Bool
loses_slot k u h v = both (eqb u v) (not (eqb k h))

-- the tables where the permits for the slot are gone, and the entries for it of every guest but the kept one
abbrev pub slot_closed : State → (kept slot : ℕ) → State
slot_closed s k u = with_entries (with_permits s (unpermitted (eqb u) s.permits)) (revoked_all (loses_slot k u) s.entries)
