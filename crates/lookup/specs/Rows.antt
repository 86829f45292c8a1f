-- A guest by its row in the tables, and a slot by its. A number that is no guest's, or no slot, has the first row, which is
-- then not looked at.
use Rattle.std.specs.Prelude.{ℕ, Bool, leb, ltb}
use Rattle.lists.specs.Choice.{choose, both}
use Rattle.model.specs.declared.Guest.{Guest}
use Rattle.model.specs.Sizes.{guest_count, slot_count}
use Rattle.model.specs.Tables.{guest_place}

abbrev pub is_guest : ℕ → Bool
is_guest g = both (leb 1 g) (leb g guest_count)

unfoldable pub row_of : (guest : ℕ) → ℕ
row_of g = choose (is_guest g) (guest_place g) 0

-- the place of an enrolled guest, by what stands in its row; 8 for any other number
unfoldable pub place_by : Guest → (guest : ℕ) → ℕ
place_by x g = choose (both (is_guest g) x.enrolled) (guest_place g) 8

unfoldable pub slot_row : (slot : ℕ) → ℕ
slot_row u = choose (ltb u slot_count) u 0
