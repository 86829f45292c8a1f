-- What a writer of text does to a list of bytes, and to a text that it goes on with.
use Rattle.std.specs.Prelude.{ℕ, ◌+◌, ◌≤◌, List, ◌≡◌, length}
use Rattle.lists.specs.Bytes.{over}
use Rattle.digits.specs.declared.Text.{Text}

-- the text stands in `after`, from place `start` on, where as many other bytes stood before; `next` is the place after it
pub record Wrote (before : List ℕ) (start : ℕ) (text after : List ℕ) (next : ℕ) : Type 0 where
  pub room : start + length text ≤ length before
  pub place : next ≡ start + length text
  pub bytes : after ≡ over before start text

-- there is room for n more bytes
abbrev pub HasRoom : Text → (n : ℕ) → Type 0
HasRoom t n = t.at + n ≤ length t.out.now

-- the words stand behind the text before, in the same room
pub record Adds (before : Text) (words : List ℕ) (after : Text) : Type 0 where
  pub same_room : after.out.ghost_name ≡ before.out.ghost_name
  pub as_long : length after.out.now ≡ length before.out.now
  pub wrote : Wrote before.out.now before.at words after.out.now after.at
