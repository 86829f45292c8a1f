-- The frames of a space are a run: that of the space that goes is what is freed. Assumes nothing.
use Prim.Native.Nat.{ℕ, ◌<◌}
use mathlib.Core.Bool.{Bool}
use mathlib.Core.List.{List}
use mathlib.Core.Path.{◌≡◌, refl, fun_ext, ◌∙◌}
use lib.Dec.{eqb}
use borrow.Author.Tests.{eqb-true, eq-eqb}
use Rattle.lists.proofs.Decides.{same_by}
use Rattle.model.specs.declared.Space.{Space}
use Rattle.model.specs.Changes.{freed}
use Rattle.model.specs.Leaves.{in_run}
use Rattle.model.specs.Sizes.{slot_count}
use Rattle.model.specs.Tables.{space_at}
use Rattle.model.proofs.Runs.{d_has, has_run}
use Rattle.model.proofs.Withdraw.{d_freed}

module _ (ss : List Space) (u : ℕ) where
  -- the frames of the space in slot u
  abbrev run : (frame : ℕ) → Bool
  run = in_run (space_at ss u).first (space_at ss u).pages

  pub freed_run : u < slot_count → freed ss ss (eqb u) ≡ run
  freed_run b = fun_ext (λ f.
      same_by (d_freed ss ss (eqb u) f) (d_has ss ss u f) (λ (v, _, (e, h)). rw (eqb-true u v e) h) (λ h. (u, b, (eq-eqb u u refl, h))) ∙ has_run ss u f)
