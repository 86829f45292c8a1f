-- The two ways in which translation reaches a space: token 0 means the guest's primary space with write; any other token
-- goes through the valid entry of the guest's list that it is assigned to.
use Rattle.std.specs.Prelude.{ℕ, true, false, ◌≢◌, ◌≡◌}
use Rattle.model.specs.declared.Right.{Right}
use Rattle.model.specs.declared.Right.TheVariants.{Write}
use Rattle.model.specs.declared.Standing.TheVariants.{Valid}
use Rattle.model.specs.declared.State.{State}
use Rattle.model.specs.Searches.{primary_slot}
use Rattle.model.specs.Tables.{guest_at, entry_at}
use Rattle.model.specs.Tokens.{malformed, assigned, entry_number}

pub record ThroughPrimary (s : State) (g t u : ℕ) (r : Right) : Type 0 where
  pub token : t ≡ 0
  pub slot : u ≡ primary_slot s.spaces g
  pub right : r ≡ Write

pub record ThroughEntry (s : State) (g t u : ℕ) (r : Right) : Type 0 where
  pub token : t ≢ 0
  pub formed : malformed t ≡ false
  pub assigned : assigned s.entries g (guest_at s.guests g).list t ≡ true
  pub valid : (entry_at s.entries g (entry_number t)).standing ≡ Valid u r
