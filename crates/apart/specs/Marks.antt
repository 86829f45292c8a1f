-- The numbers of 16 bits that stand for a space where two spaces are held against each other. Where two live spaces clash,
-- their numbers do; numbers may also clash where the spaces don't, and then the quick test is unsure.
use Rattle.std.specs.Prelude.{ℕ, ◌+◌, ◌-◌, ◌*◌, ◌/◌, ◌%◌, ltb}
use Rattle.lists.specs.Choice.{choose}
use Rattle.model.specs.declared.Space.{Space}
use Rattle.model.specs.Tables.{live}

-- what a live space has for a mark, or else a number that no other slot without a live space has
abbrev pub mark_of : Space → (slot mark : ℕ) → ℕ
mark_of x u m = choose (live x) m (65535 - u)

-- the same for the same identification
unfoldable pub id_mark : Space → (slot : ℕ) → ℕ
id_mark x u = mark_of x u (x.id % 65536)

-- any other function of the two would do; this one is quick, and seldom the same for the names that guests use
abbrev pub spread_of : (owner name : ℕ) → ℕ
spread_of o n = ((n % 4294967296 * 1640531527 + n / 4294967296 * 2146121005) / 16777216 % 65536 + o * 8191) % 65536

-- the same for the same owner and name
unfoldable pub name_mark : Space → (slot : ℕ) → ℕ
name_mark x u = mark_of x u (spread_of x.owner x.name)

unfoldable pub cut : (most n : ℕ) → ℕ
cut m n = choose (ltb m n) m n

-- the first frame, cut below the highest end, so that an end that was cut lies above every first frame
abbrev pub first_mark : Space → ℕ
first_mark x = cut 65534 x.first

-- the frame after the last
abbrev pub end_mark : Space → ℕ
end_mark x = cut 65535 (x.first + x.pages)
