-- The executable form says what the tables say: after every list from a fresh state, for every enrolled guest and every
-- token, the record's answer is the tables' translation, its space named by its identification.
use Rattle.std.specs.Prelude.{ℕ, ◌<◌, true, List, [], ◌≡◌, eqb, Ok, Err}
use Rattle.lists.specs.Choice.{choose}
use Rattle.model.specs.declared.State.{State}
use Rattle.model.specs.Answers.{number}
use Rattle.model.specs.Fresh.{empty_tables}
use Rattle.model.specs.Searches.{enrolled}
use Rattle.model.specs.Sound.{Live}
use Rattle.model.specs.Step.{Ready, Issue, after_run}
use Rattle.model.specs.Tables.{space_at, cpu_at, cpu_place, grant_at}
use Rattle.model.specs.Tokens.{token_used}
use Rattle.model.specs.Translation.{Translation, translate}
use Rattle.model.specs.declared.Caller.{Caller}
use Rattle.isolation.specs.History.{Event, recorded}
use Rattle.isolation.specs.Recall.{Given, space, misformed, unassigned, withdrawn, owner_in, grant_in, recall, used_in}

-- what the tables' translation gives, the space named by its identification; translation refuses with 14, 15 or 16 only
unfoldable pub given : State → Translation → Given
given s (Ok x) = space (space_at s.spaces x.slot).id x.right
given s (Err a) = choose (eqb (number a) 14) misformed (choose (eqb (number a) 15) unassigned withdrawn)

pub record Agreeing (s : State) (h : List Event) : Type 0 where
  pub owners : (u : ℕ) → Live s.spaces u → owner_in h (space_at s.spaces u).id ≡ (space_at s.spaces u).owner
  pub grants : (u g : ℕ) → Live s.spaces u → enrolled s.guests g ≡ true → grant_in h (space_at s.spaces u).id g ≡ grant_at s.permits u g
  pub tokens : (g t : ℕ) → enrolled s.guests g ≡ true → recall h g t ≡ given s (translate s g t)
  pub used : (c : Caller) (r : ℕ) → enrolled s.guests c.guest ≡ true → r < 16 → used_in h c r ≡ token_used (cpu_at s.cpus (cpu_place c)) r

abbrev pub Agrees : Type 0
Agrees =
    (F : ℕ) (scratch : List ℕ) (calls : List Issue)
    → Ready (record { tables = empty_tables F 1; scratch = scratch })
    → Agreeing (after_run (record { tables = empty_tables F 1; scratch = scratch }) calls).tables (recorded [] (record { tables = empty_tables F 1; scratch = scratch }) calls)
