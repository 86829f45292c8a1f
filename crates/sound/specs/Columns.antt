-- What the passes over the slots and the guests say and leave.
use Rattle.std.specs.Prelude.{ℕ, ◌+◌, ◌%◌, ◌<◌, Bool, true, Option, is_some, IfSome, List, ◌≡◌, length, get_or, eqb}
use Rattle.lists.specs.Places.{every, count}
use Rattle.model.specs.declared.Cpu.{Cpu}
use Rattle.model.specs.declared.Guest.{Guest}
use Rattle.model.specs.declared.Space.{Space}
use Rattle.model.specs.SoundTest.{slot_test}
use Rattle.model.specs.Tables.{space_at, cpu_at}
use Rattle.permitted.specs.Columns.{Filled, guest_on, Owners}
use Rattle.settings.specs.Guests.{guest_with}
use Rattle.sound.specs.Elements.{tag_of}

abbrev pub tag_at : List Space → (slot : ℕ) → ℕ
tag_at ss u = tag_of (space_at ss u)

abbrev pub slots_test : (frames next : ℕ) → List Guest → List Space → Bool
slots_test f n gs ss = every (λ u. slot_test f n gs (space_at ss u)) 32

-- the tags of the slots
pub record Tagged (ss : List Space) (tags : List ℕ) : Type 0 where
  pub column : Filled tags (tag_at ss) 32
  pub owners : Owners tags

-- what the pass over the slots says, and the tags that it gives
pub record Slots (r : Option (List ℕ)) (f n : ℕ) (gs : List Guest) (ss : List Space) : Type 0 where
  pub spaces : length ss ≡ 32
  pub guests : length gs ≡ 8
  pub test : is_some r ≡ slots_test f n gs ss
  pub tags : IfSome r (Tagged ss)

-- how many of the first n slots have the tag t
abbrev pub tag_count : (tags : List ℕ) → (n t : ℕ) → ℕ
tag_count ts n t = count (λ u. eqb (get_or ts u 0 % 32) t) n

unfoldable pub guests_with : (tags : List ℕ) → List Guest → List Cpu → Bool
guests_with ts gs cs = every (λ k. guest_with (guest_on gs k) (cpu_at cs k) (tag_count ts 32 (k + 17)) (tag_count ts 32 (k + 1))) 8

-- what the pass over the guests says
pub record Guests (r : Bool) (tags : List ℕ) (gs : List Guest) (cs : List Cpu) : Type 0 where
  pub cpus : length cs ≡ 8
  pub test : r ≡ guests_with tags gs cs
  pub registers : r ≡ true → (k : ℕ) → k < 8 → length (cpu_at cs k).registers ≡ 16
