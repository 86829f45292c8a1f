-- The model's test of one slot, with the guest at its owner's place.
use Rattle.std.specs.Prelude.{ℕ, ◌+◌, ◌%◌, Bool, leb, ltb, eqb}
use Rattle.lists.specs.Choice.{choose, both}
use Rattle.model.specs.declared.Guest.{Guest}
use Rattle.model.specs.declared.Space.{Space}
use Rattle.model.specs.Names.{good_name, base_name}
use Rattle.model.specs.SoundTest.{dead_test}
use Rattle.model.specs.Tables.{live}

-- x is owned by a guest, and o, the guest at its owner's place, is enrolled
abbrev pub owned_test : Space → Guest → Bool
owned_test x o = both (both (leb 1 x.owner) (leb x.owner 8)) o.enrolled

unfoldable pub live_with : (frames next : ℕ) → Guest → Space → Bool
live_with f n o x =
    both (owned_test x o)
    (both (leb 1 x.pages)
    (both (leb (x.first + x.pages) f)
    (both (ltb x.id n) (good_name x.name))))

unfoldable pub slot_with : (frames next : ℕ) → Guest → Space → Bool
slot_with f n o x = choose (live x) (live_with f n o x) (dead_test x)

-- the owner of a data space; the owner and 16 of a primary; 0 of a slot that is not live
unfoldable pub tag_of : Space → ℕ
tag_of x = choose (eqb x.name base_name) (x.owner % 16 + 16) (x.owner % 16)
