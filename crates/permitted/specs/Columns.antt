-- What the small tables hold, and the test over them.
use Rattle.std.specs.Prelude.{ℕ, ◌+◌, ◌-◌, ◌*◌, ◌/◌, ◌%◌, ◌≤◌, ◌<◌, Bool, Option, is_some, IfSome, List, ◌≡◌, length, get_or, leb, eqb}
use Rattle.lists.specs.Choice.{choose}
use Rattle.lists.specs.Places.{every}
use Rattle.model.specs.declared.Guest.{Guest}
use Rattle.model.specs.declared.Permit.{Permit}
use Rattle.model.specs.declared.Space.{Space}
use Rattle.model.specs.Tables.{no_guest, no_permit, space_at}
use Rattle.permitted.specs.Elements.{place_of, OwnerIs, grant_number, may_be, power_with}

abbrev pub guest_on : List Guest → (place : ℕ) → Guest
guest_on gs k = get_or gs k no_guest

-- the first n places of a table hold f
pub record Filled (t : List ℕ) (f : ℕ → ℕ) (n : ℕ) : Type 0 where
  pub long : n ≤ length t
  pub at : (k : ℕ) → k < n → get_or t k 0 ≡ f k

-- the owner in the tag of a slot
abbrev pub owner_in : (tags : List ℕ) → (slot : ℕ) → ℕ
owner_in ts u = get_or ts u 0 % 16

-- the owners in the tags are guests, and 0 for nobody
pub record Owners (tags : List ℕ) : Type 0 where
  pub below : (u : ℕ) → u < 32 → owner_in tags u ≤ 8

-- they are the owners of these spaces
pub record OwnersOf (ss : List Space) (tags : List ℕ) : Type 0 where
  pub at : (u : ℕ) → u < 32 → OwnerIs (space_at ss u) (owner_in tags u)

-- a permit as a number
abbrev pub number_at : List Permit → (place : ℕ) → ℕ
number_at ps k = grant_number (get_or ps k no_permit).grant

-- what guest k + 1 may be permitted of the spaces of owner o, at place o * 8 + k; owner 0 is nobody
abbrev pub may_at : List Guest → (place : ℕ) → ℕ
may_at gs j = choose (eqb (j / 8) 0) 0 (may_be (guest_on gs (j / 8 - 1)) (guest_on gs (j % 8)) (j / 8 - 1) (j % 8))

-- the same at the place of each permit, slot by slot, by a table of it
abbrev pub limit_at : (may tags : List ℕ) → (place : ℕ) → ℕ
limit_at ms ts j = get_or ms (owner_in ts (j / 8) * 8 + j % 8) 0

abbrev pub permit_with : List Guest → List Permit → (tags : List ℕ) → (slot place : ℕ) → Bool
permit_with gs ps ts u k = leb (number_at ps (u * 8 + k)) (may_at gs (owner_in ts u * 8 + k))

unfoldable pub permits_with : List Guest → List Permit → (tags : List ℕ) → Bool
permits_with gs ps ts = every (λ u. every (permit_with gs ps ts u) 8) 32

-- what guest k + 1 may do with slot u, where its permit is the number n: that, or all if it is the owner
abbrev pub power_at : (tags : List ℕ) → (slot place n : ℕ) → ℕ
power_at ts u k n = choose (eqb (place_of (owner_in ts u)) k) (power_with (owner_in ts u) n) n

pub record Powers (tags numbers powers : List ℕ) : Type 0 where
  pub at : (u k : ℕ) → u < 32 → k < 8 → get_or powers (u * 8 + k) 0 ≡ power_at tags u k (get_or numbers (u * 8 + k) 0)

-- the powers by the permits themselves
pub record PowersOf (ps : List Permit) (tags powers : List ℕ) : Type 0 where
  pub at : (u k : ℕ) → u < 32 → k < 8 → get_or powers (u * 8 + k) 0 ≡ power_at tags u k (number_at ps (u * 8 + k))

-- what the pass over the permits says, and the table of powers that it gives
pub record Permits (r : Option (List ℕ)) (gs : List Guest) (ps : List Permit) (tags : List ℕ) : Type 0 where
  pub long : length ps ≡ 256
  pub test : is_some r ≡ permits_with gs ps tags
  pub table : IfSome r (PowersOf ps tags)
