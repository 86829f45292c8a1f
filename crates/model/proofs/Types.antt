-- The types of the code have the sizes and widths of paper 01. Assumes nothing.
use Prim.Native.Nat.{◌*◌}
use mathlib.Core.List.{[], ◌∷◌}
use mathlib.Core.Path.{◌≡◌, refl}
use denote.Builtin.{u32, Array}
use denote.Struct.Field.{row_field, u8-field, u16-field, u32-field, u64-field, bool-field}
use Rattle.model.specs.Sizes.{guest_count, slot_count, register_count, max_frames, max_list}
use Rattle.model.specs.contracts.Cell as cell
use Rattle.model.specs.contracts.Cpu as cpu
use Rattle.model.specs.contracts.Entry as entry
use Rattle.model.specs.contracts.Guest as guest
use Rattle.model.specs.contracts.Operation as operation
use Rattle.model.specs.contracts.Permit as permit
use Rattle.model.specs.contracts.Right as right
use Rattle.model.specs.contracts.Settings as settings
use Rattle.model.specs.contracts.Space as space
use Rattle.model.specs.contracts.Standing as standing
use Rattle.model.specs.contracts.State as state

-- "Guests 1 to 8. Live spaces at most 32"; "room for all 240 entries"; a permit for each slot and guest
pub state_fields : (state.struct).parts ≡
    u32-field
    ∷ u32-field
    ∷ row_field (Array space.the_row tt slot_count)
    ∷ row_field (Array guest.the_row tt guest_count)
    ∷ row_field (Array cpu.the_row tt guest_count)
    ∷ row_field (Array permit.the_row tt (slot_count * guest_count))
    ∷ row_field (Array entry.the_row tt (guest_count * max_list))
    ∷ row_field (Array cell.the_row tt max_frames)
    ∷ []
state_fields = refl

-- "Sixteen access registers per guest, each 32 bits"; paper 02, M-100: an access key
pub cpu_fields : (cpu.struct).parts ≡ row_field (Array u32 tt register_count) ∷ bool-field ∷ u8-field ∷ []
cpu_fields = refl

-- paper 02, M-100: "Each frame of a space gets a 4-bit key and a fetch-protect mark"
pub cell_fields : (cell.struct).parts ≡ u8-field ∷ bool-field ∷ []
cell_fields = refl

-- a sequence of 8 bits: "it wraps from 255 to 0"
pub entry_fields : (entry.struct).parts ≡ standing.the_field ∷ u8-field ∷ []
entry_fields = refl

-- an identification of 32 bits, a name of eight bytes, frames and pages of 16 bits
pub space_fields : (space.struct).parts ≡ u32-field ∷ u8-field ∷ u64-field ∷ u16-field ∷ u16-field ∷ []
space_fields = refl

-- "valid with a space and a right"
pub standing_fields : standing.the_parts ≡ [] ∷ (u8-field ∷ right.the_field ∷ []) ∷ [] ∷ []
standing_fields = refl

-- arguments of 32 bits, and names of 64: ENROL, CREATE, DESTROY, PERMIT, ISOLATE, QUERY, ADD, REMOVE, LOAD, MODE, FETCH,
-- STORE, RESET, KEY, BLOCK
pub settings_fields : (settings.struct).parts ≡ u32-field ∷ u32-field ∷ u32-field ∷ u32-field ∷ u32-field ∷ []
settings_fields = refl

pub operation_fields : operation.the_parts ≡
    (settings.the_field ∷ [])
    ∷ (u64-field ∷ u32-field ∷ [])
    ∷ (u32-field ∷ [])
    ∷ (u32-field ∷ u32-field ∷ right.the_field ∷ [])
    ∷ (u32-field ∷ [])
    ∷ (u32-field ∷ u64-field ∷ [])
    ∷ (u32-field ∷ right.the_field ∷ [])
    ∷ (u32-field ∷ [])
    ∷ (u32-field ∷ u32-field ∷ [])
    ∷ (u32-field ∷ [])
    ∷ (u32-field ∷ u32-field ∷ [])
    ∷ (u32-field ∷ u32-field ∷ [])
    ∷ []
    ∷ (u32-field ∷ [])
    ∷ (u32-field ∷ u32-field ∷ u32-field ∷ u32-field ∷ [])
    ∷ []
operation_fields = refl
