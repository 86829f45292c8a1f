-- What kind of call each is, as one table: whether it enrols, whether it moves bytes between the lent buffer and a space, and
-- what a session shows of it once it is done. What depends on these alone asks here and knows no call.
use Rattle.std.specs.Prelude.{ℕ, Bool, true, false}
use Rattle.model.specs.declared.Operation.{Operation}
use Rattle.model.specs.declared.Operation.TheVariants.{Enrol, Create, Destroy, Permit, Isolate, Query, Add, Remove, Load, Mode, Fetch, Store, Reset, Key, Block}

-- none; those of a fetch, from a space to the buffer; those of a store, from the buffer to a space
pub data Moves : Type 0 where
  no_bytes : Moves
  from_space : (register address : ℕ) → Moves
  to_space : (register address : ℕ) → Moves

-- none; the value of its answer; the bytes that it moved
pub data Shows : Type 0 where
  no_value : Shows
  its_value : Shows
  its_bytes : Shows

pub record Class : Type 0 where
  pub enrols : Bool
  pub moves : Moves
  pub shows : Shows

abbrev pub class : Bool → Moves → Shows → Class
class e m v = record { enrols = e; moves = m; shows = v }

abbrev pub class_of : Operation → Class
class_of (Enrol x) = class true no_bytes its_value
class_of (Create name pages) = class false no_bytes its_value
class_of (Destroy id) = class false no_bytes no_value
class_of (Permit id guest right) = class false no_bytes no_value
class_of (Isolate id) = class false no_bytes no_value
class_of (Query owner name) = class false no_bytes its_value
class_of (Add id right) = class false no_bytes its_value
class_of (Remove token) = class false no_bytes no_value
class_of (Load register value) = class false no_bytes no_value
class_of (Mode mode) = class false no_bytes no_value
class_of (Fetch register address) = class false (from_space register address) its_bytes
class_of (Store register address) = class false (to_space register address) no_value
class_of Reset = class false no_bytes no_value
class_of (Key key) = class false no_bytes no_value
class_of (Block id address key mark) = class false no_bytes no_value

-- whether bytes go to a space
abbrev pub stores_bytes : Moves → Bool
stores_bytes no_bytes = false
stores_bytes (from_space r a) = false
stores_bytes (to_space r a) = true

abbrev pub is_store : Operation → Bool
is_store k = stores_bytes (class_of k).moves

-- whether bytes go to or from a space
abbrev pub moves_bytes : Moves → Bool
moves_bytes no_bytes = false
moves_bytes (from_space r a) = true
moves_bytes (to_space r a) = true
