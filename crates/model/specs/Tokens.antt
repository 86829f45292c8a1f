-- Paper 01, "Tokens and translation": tokens.
use Rattle.std.specs.Prelude.{ℕ, ◌+◌, ◌*◌, ◌/◌, ◌%◌, Bool, not, List, get_or, leb, ltb, eqb}
use Rattle.lists.specs.Choice.{choose, both, either}
use Rattle.model.specs.declared.Cpu.{Cpu}
use Rattle.model.specs.declared.Entry.{Entry}
use Rattle.model.specs.declared.Standing.{Standing}
use Rattle.model.specs.Searches.{is_unused}
use Rattle.model.specs.Tables.{entry_at}

-- "Token = sequence x 65,536 + entry number"
abbrev pub token : (sequence number : ℕ) → ℕ
token q n = q * 65536 + n

abbrev pub entry_number : (token : ℕ) → ℕ
entry_number t = t % 65536

-- with a leftmost byte of 0, as in every well-formed token, this is the sequence
abbrev pub upper_half : (token : ℕ) → ℕ
upper_half t = t / 65536

-- "Malformed: not 0, and either the leftmost byte is not 0 or the entry number is not 2 to 31."
unfoldable pub malformed : (token : ℕ) → Bool
malformed t =
    both (not (eqb t 0)) (either (leb 16777216 t) (either (ltb (entry_number t) 2) (ltb 31 (entry_number t))))

-- whether no token is assigned to an entry, by its standing
abbrev pub unassigned : Standing → Bool
unassigned x = is_unused x

-- "Not assigned: entry number above L+1, entry unused, or another sequence."
unfoldable pub assigned : List Entry → (guest list token : ℕ) → Bool
assigned es g l t =
    both (leb (entry_number t) (l + 1))
    (both (not (unassigned (entry_at es g (entry_number t)).standing)) (eqb (entry_at es g (entry_number t)).sequence (upper_half t)))

-- "In primary mode, and for register 0 in either mode, the token used is 0 whatever was loaded. Otherwise it is the
-- register's value."
unfoldable pub token_used : Cpu → (register : ℕ) → ℕ
token_used c r = choose (both c.mode (not (eqb r 0))) (get_or c.registers r 0) 0
