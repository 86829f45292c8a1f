-- The checks 5 and 6 as a value: the slot of the live space that a guest names and owns, or the answer that refuses it.
-- proofs/Owning has how it relates to the model's `owning`.
use Rattle.std.specs.Prelude.{ℕ, List, Result, Ok, Err, ltb, eqb}
use Rattle.lists.specs.Choice.{choose}
use Rattle.model.specs.declared.Answer.{Answer}
use Rattle.model.specs.declared.Answer.TheVariants.{NoSpace, NotOwner}
use Rattle.model.specs.declared.Space.{Space}
use Rattle.model.specs.Searches.{slot_of}
use Rattle.model.specs.Sizes.{slot_count}
use Rattle.model.specs.Tables.{space_at}

unfoldable pub owned_at : (slot : ℕ) → Space → (guest : ℕ) → Result ℕ Answer
owned_at u x g = choose (ltb u slot_count) (choose (eqb x.owner g) (Ok u) (Err NotOwner)) (Err NoSpace)

abbrev pub owned_space : List Space → (guest id : ℕ) → Result ℕ Answer
owned_space ss g i = owned_at (slot_of ss i) (space_at ss (slot_of ss i)) g
