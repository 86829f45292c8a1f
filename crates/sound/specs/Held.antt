-- What the types of the code say of a state: the lengths of its arrays, and that a sequence has 8 bits.
use Rattle.std.specs.Prelude.{ℕ, ◌<◌, ◌≡◌, length, get_or}
use Rattle.model.specs.declared.State.{State}
use Rattle.model.specs.Tables.{cpu_at, unused_entry}

pub record Held (s : State) : Type 0 where
  pub spaces : length s.spaces ≡ 32
  pub guests : length s.guests ≡ 8
  pub cpus : length s.cpus ≡ 8
  pub registers : (k : ℕ) → k < 8 → length (cpu_at s.cpus k).registers ≡ 16
  pub permits : length s.permits ≡ 256
  pub entries : length s.entries ≡ 240
  pub sequence : (k : ℕ) → k < 240 → (get_or s.entries k unused_entry).sequence < 256
