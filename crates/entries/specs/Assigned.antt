-- What makes a token assigned, of the entry that it names alone: `assigned` of the model is this of the entry that stands in
-- the list.
use Rattle.std.specs.Prelude.{ℕ, ◌+◌, Bool, not, ◌==◌, nat_le}
use Rattle.lists.specs.Choice.{both}
use Rattle.model.specs.declared.Entry.{Entry}
use Rattle.model.specs.Tokens.{entry_number, upper_half, unassigned}

abbrev pub assigned_to : Entry → (list token : ℕ) → Bool
assigned_to e l t = both (nat_le (entry_number t) (l + 1)) (both (not (unassigned e.standing)) (e.sequence == upper_half t))
