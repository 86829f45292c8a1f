-- Paper 01, "Sizes": the numbers.
use Rattle.std.specs.Prelude.{ℕ}

-- "Guests 1 to 8"
abbrev pub guest_count : ℕ
guest_count = 8

-- "Live spaces at most 32"
abbrev pub slot_count : ℕ
slot_count = 32

-- "Frames of 4,096 bytes"
abbrev pub frame_size : ℕ
frame_size = 4096

-- "F from 1 to 512"
abbrev pub max_frames : ℕ
max_frames = 512

-- ENROL and CREATE take "pages 1-512"
abbrev pub max_pages : ℕ
max_pages = 512

-- ENROL takes "allowance 0-31"
abbrev pub max_allowance : ℕ
max_allowance = 31

-- "A guest's list has L entries, 1 to 30"
abbrev pub max_list : ℕ
max_list = 30

-- "Sixteen access registers per guest"
abbrev pub register_count : ℕ
register_count = 16

-- "A fetch or store moves 1 to 256 bytes"
abbrev pub max_transfer : ℕ
max_transfer = 256

-- "the next identification, 1 to 65,535, never given twice": when it is 65,536, all have been given
abbrev pub spent_identification : ℕ
spent_identification = 65536

-- Paper 02, M-100: "all keys are 0 to 15"
abbrev pub max_key : ℕ
max_key = 15
