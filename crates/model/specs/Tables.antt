-- The tables: what stands where, and the tables with one of them replaced.
-- A place that no array has reads as the unused element, so that every definition is total.
use Rattle.std.specs.Prelude.{ℕ, ◌+◌, ◌-◌, ◌*◌, Bool, false, not, List, [], get_or, replicate, eqb}
use Rattle.model.specs.declared.Caller.{Caller}
use Rattle.model.specs.declared.Cell.{Cell}
use Rattle.model.specs.declared.Cpu.{Cpu}
use Rattle.model.specs.declared.Entry.{Entry}
use Rattle.model.specs.declared.Grant.{Grant}
use Rattle.model.specs.declared.Grant.TheVariants.{Nothing}
use Rattle.model.specs.declared.Guest.{Guest}
use Rattle.model.specs.declared.Permit.{Permit}
use Rattle.model.specs.declared.Space.{Space}
use Rattle.model.specs.declared.Standing.TheVariants.{Unused}
use Rattle.model.specs.declared.State.{State}
use Rattle.model.specs.Sizes.{register_count}

abbrev pub no_space : Space
no_space = record { id = 0; owner = 0; name = 0; first = 0; pages = 0 }

abbrev pub no_guest : Guest
no_guest = record { enrolled = false; allowance = 0; share = false; list = 0; asf = false }

abbrev pub no_permit : Permit
no_permit = record { grant = Nothing }

abbrev pub unused_entry : Entry
unused_entry = record { standing = Unused; sequence = 0 }

-- what a place that no array has reads as
abbrev pub no_cpu : Cpu
no_cpu = record { registers = []; mode = false; key = 0 }

-- registers of zeros, primary mode, access key 0
abbrev pub zero_cpu : Cpu
zero_cpu = record { registers = replicate register_count 0; mode = false; key = 0 }

-- paper 02, M-100: "key 0, mark off"
abbrev pub no_cell : Cell
no_cell = record { key = 0; mark = false }

-- Reading.
abbrev pub space_at : List Space → ℕ → Space
space_at ss u = get_or ss u no_space

abbrev pub live : Space → Bool
live x = not (eqb x.id 0)

abbrev pub guest_place : ℕ → ℕ
guest_place g = g - 1

abbrev pub guest_at : List Guest → ℕ → Guest
guest_at gs g = get_or gs (guest_place g) no_guest

-- the CPU block that a caller uses
abbrev pub cpu_place : Caller → ℕ
cpu_place c = guest_place c.guest

abbrev pub cpu_at : List Cpu → ℕ → Cpu
cpu_at cs k = get_or cs k no_cpu

abbrev pub permit_place : (slot guest : ℕ) → ℕ
permit_place u g = u * 8 + guest_place g

abbrev pub grant_at : List Permit → (slot guest : ℕ) → Grant
grant_at ps u g = (get_or ps (permit_place u g) no_permit).grant

abbrev pub entry_place : (guest number : ℕ) → ℕ
entry_place g n = guest_place g * 30 + (n - 2)

abbrev pub entry_at : List Entry → (guest number : ℕ) → Entry
entry_at es g n = get_or es (entry_place g n) unused_entry

abbrev pub cell_at : List Cell → (frame : ℕ) → Cell
cell_at cs f = get_or cs f no_cell

-- Replacing: one setter for each table, and no record of all tables anywhere else but in Fresh.
abbrev pub with_next : State → ℕ → State
with_next s n = record {
  frames = s.frames;
  next = n;
  spaces = s.spaces;
  guests = s.guests;
  cpus = s.cpus;
  permits = s.permits;
  entries = s.entries;
  cells = s.cells;
}

abbrev pub with_spaces : State → List Space → State
with_spaces s x = record {
  frames = s.frames;
  next = s.next;
  spaces = x;
  guests = s.guests;
  cpus = s.cpus;
  permits = s.permits;
  entries = s.entries;
  cells = s.cells;
}

abbrev pub with_guests : State → List Guest → State
with_guests s x = record {
  frames = s.frames;
  next = s.next;
  spaces = s.spaces;
  guests = x;
  cpus = s.cpus;
  permits = s.permits;
  entries = s.entries;
  cells = s.cells;
}

abbrev pub with_cpus : State → List Cpu → State
with_cpus s x = record {
  frames = s.frames;
  next = s.next;
  spaces = s.spaces;
  guests = s.guests;
  cpus = x;
  permits = s.permits;
  entries = s.entries;
  cells = s.cells;
}

abbrev pub with_permits : State → List Permit → State
with_permits s x = record {
  frames = s.frames;
  next = s.next;
  spaces = s.spaces;
  guests = s.guests;
  cpus = s.cpus;
  permits = x;
  entries = s.entries;
  cells = s.cells;
}

abbrev pub with_entries : State → List Entry → State
with_entries s x = record {
  frames = s.frames;
  next = s.next;
  spaces = s.spaces;
  guests = s.guests;
  cpus = s.cpus;
  permits = s.permits;
  entries = x;
  cells = s.cells;
}

abbrev pub with_cells : State → List Cell → State
with_cells s x = record {
  frames = s.frames;
  next = s.next;
  spaces = s.spaces;
  guests = s.guests;
  cpus = s.cpus;
  permits = s.permits;
  entries = s.entries;
  cells = x;
}

-- a CPU block with one of its parts replaced
abbrev pub with_registers : Cpu → List ℕ → Cpu
with_registers c x = record { registers = x; mode = c.mode; key = c.key }

abbrev pub with_mode : Cpu → Bool → Cpu
with_mode c x = record { registers = c.registers; mode = x; key = c.key }

abbrev pub with_key : Cpu → ℕ → Cpu
with_key c x = record { registers = c.registers; mode = c.mode; key = x }
