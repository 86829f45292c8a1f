-- The frames of a guest's data spaces: what a loop over the slots, one run a turn, has made of the cells is what the model says. Assumes nothing.
use Prim.Native.Nat.{ℕ, ◌+◌, ◌≤◌}
use mathlib.Core.Bool.{Bool}
use mathlib.Core.List.{List}
use mathlib.Core.Path.{◌≡◌, ap, ◌∙◌}
use Rattle.lists.specs.Choice.{choose}
use Rattle.model.specs.declared.Cell.{Cell}
use Rattle.model.specs.declared.Space.{Space}
use Rattle.model.specs.Changes.{freed, blanked}
use Rattle.model.specs.Leaves.{in_run}
use Rattle.model.specs.Searches.{is_data}
use Rattle.model.specs.Tables.{no_cell, space_at}
use Rattle.frames.specs.Runs.{slots_of}
use Rattle.frames.proofs.Freeing.{filled, freed_below, freed_all, freed_none, freed_more}

-- for search: a frame has one cell, at its place
module _ (ss : List Space) (g : ℕ) (cs : List Cell) where
  abbrev gone : (slot : ℕ) → Bool
  gone = slots_of (is_data g) ss

  pub freed_start : cs ≡ blanked (freed_below ss gone 0) cs
  unfolding blanked filled
  freed_start = freed_none ss gone no_cell (λ f. f) cs

  pub freed_go : (a b : List Cell) (u n : ℕ) → n ≡ choose (is_data g (space_at ss u)) (space_at ss u).pages 0 → a ≡ blanked (freed_below ss gone u) cs
      → b ≡ blanked (in_run (space_at ss u).first n) a → b ≡ blanked (freed_below ss gone (u + 1)) cs
  unfolding blanked filled slots_of
  freed_go a b u n size e is = is ∙ freed_more ss gone no_cell (λ f. f) cs a u n e size

  pub freed_done : (b : List Cell) (u : ℕ) → b ≡ blanked (freed_below ss gone u) cs → u ≤ 32 → 32 ≤ u → b ≡ blanked (freed ss ss gone) cs
  freed_done b u e l h = e ∙ ap (λ t. blanked t cs) (freed_all ss gone u l h)

pub ruleset freeing = (freed_start, freed_go, freed_done)
