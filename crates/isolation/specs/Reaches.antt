-- "A fetch or store reaches a space if it is answered 0 and either the token used is 0 and the space is the guest's primary,
-- or the token's entry is valid with that space." Said of token, tables and answer alone. A space is named by its
-- identification.
use Rattle.std.specs.Prelude.{ℕ, Bool, true, ◌⊎◌, ◌≡◌}
use Rattle.model.specs.declared.Operation.{Operation}
use Rattle.model.specs.declared.Right.{Right}
use Rattle.model.specs.declared.Standing.TheVariants.{Valid}
use Rattle.model.specs.declared.State.{State}
use Rattle.model.specs.Answers.{number}
use Rattle.model.specs.Classes.{Moves, no_bytes, from_space, to_space, class_of}
use Rattle.model.specs.Names.{base_name}
use Rattle.model.specs.Sound.{Live}
use Rattle.model.specs.Step.{Machine, Issue, step}
use Rattle.model.specs.Tables.{space_at, cpu_at, cpu_place, entry_at}
use Rattle.model.specs.Tokens.{token_used, entry_number}

-- the call is a fetch or store through that register
abbrev pub MovesThrough : Moves → (register : ℕ) → Type 0
MovesThrough no_bytes r = ⊥
MovesThrough (from_space register address) r = register ≡ r
MovesThrough (to_space register address) r = register ≡ r

abbrev pub Through : Operation → (register : ℕ) → Type 0
Through k r = MovesThrough (class_of k).moves r

-- the space in slot u is guest g's primary
pub record Primary (s : State) (g u : ℕ) : Type 0 where
  pub owner : (space_at s.spaces u).owner ≡ g
  pub name : (space_at s.spaces u).name ≡ base_name

-- the token's entry in guest g's list is valid with the space in slot u
pub record ValidEntry (s : State) (g t u : ℕ) : Type 0 where
  pub right : Right
  pub valid : (entry_at s.entries g (entry_number t)).standing ≡ Valid u right

abbrev pub Named : State → (guest token slot : ℕ) → Type 0
Named s g t u = ((t ≡ 0) × Primary s g u) ⊎ ((t ≡ 0 → ⊥) × ValidEntry s g t u)

pub record Reaches (m : Machine) (i : Issue) (id : ℕ) : Type 0 where
  pub done : number (step m i).answer ≡ 0
  pub register : ℕ
  pub through : Through i.call.operation register
  pub slot : ℕ
  pub live : Live m.tables.spaces slot
  pub space : (space_at m.tables.spaces slot).id ≡ id
  pub named : Named m.tables i.call.caller.guest (token_used (cpu_at m.tables.cpus (cpu_place i.call.caller)) register) slot

-- it reaches a space of a set
pub record ReachesIn (X : ℕ → Bool) (m : Machine) (i : Issue) : Type 0 where
  pub id : ℕ
  pub reaches : Reaches m i id
  pub inside : X id ≡ true
