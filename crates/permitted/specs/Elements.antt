-- Permits and owners as numbers.
use Rattle.std.specs.Prelude.{ℕ, ◌+◌, ◌≤◌, ◌%◌, not, ◌⊎◌, ◌≡◌, eqb}
use Rattle.lists.specs.Choice.{choose, both}
use Rattle.model.specs.declared.Grant.{Grant}
use Rattle.model.specs.declared.Grant.TheVariants.{Nothing, Reading, Writing}
use Rattle.model.specs.declared.Guest.{Guest}
use Rattle.model.specs.declared.Space.{Space}
use Rattle.model.specs.Tables.{no_space}

-- the place of guest g, 1 to 8, without a comparison
abbrev pub place_of : (guest : ℕ) → ℕ
place_of g = (g + 7) % 8

-- a live space, and its owner is a guest
pub record Owned (x : Space) : Type 0 where
  pub live : 1 ≤ x.id
  pub low : 1 ≤ x.owner
  pub high : x.owner ≤ 8

-- o is the owner of a live space, or 0 for an empty slot
abbrev pub OwnerIs : Space → (o : ℕ) → Type 0
OwnerIs x o = (Owned x × (o ≡ x.owner)) ⊎ ((x ≡ no_space) × (o ≡ 0))

-- rights in order: a permit of number n allows a right of a rank below n
unfoldable pub grant_number : Grant → ℕ
grant_number Nothing = 0
grant_number Reading = 1
grant_number Writing = 2

-- what guest k + 1 may be permitted of the spaces of an owner
unfoldable pub may_be : (owner : Guest) → (guest : Guest) → (owner_place place : ℕ) → ℕ
may_be o h i k = choose (both (not (eqb i k)) (both o.share h.enrolled)) 2 0

-- the owner of a live space may write
unfoldable pub power_with : (owner number : ℕ) → ℕ
power_with o p = choose (eqb o 0) p 2
