-- Paper 01, "Sizes": "Names: 1 to 8 bytes, A-Z first, then A-Z or 0-9, blank-padded on the right to 8." As a statement;
-- good_name of Names is the same as a Boolean (proofs/Names).
use Rattle.std.specs.Prelude.{ℕ, ◌-◌, ◌≤◌, ◌<◌, List, ◌++◌, ◌⊎◌, ◌≡◌, length, get_or, replicate}
use Rattle.model.specs.Names.{name_bytes}

-- A to Z are the bytes 65 to 90, 0 to 9 the bytes 48 to 57, a blank is the byte 32
abbrev pub Letter : (byte : ℕ) → Type 0
Letter b = (65 ≤ b) × (b ≤ 90)

abbrev pub Digit : (byte : ℕ) → Type 0
Digit b = (48 ≤ b) × (b ≤ 57)

pub record PaddedText (bytes : List ℕ) : Type 0 where
  pub text : List ℕ
  pub shortest : 1 ≤ length text
  pub longest : length text ≤ 8
  pub first : Letter (get_or text 0 0)
  pub later : (i : ℕ) → 1 ≤ i → i < length text → Letter (get_or text i 0) ⊎ Digit (get_or text i 0)
  pub padded : bytes ≡ text ++ replicate (8 - length text) 32

abbrev pub NameText : (name : ℕ) → Type 0
NameText n = PaddedText (name_bytes n)
