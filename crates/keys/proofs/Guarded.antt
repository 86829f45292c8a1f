-- What the code asks of two blocks is what the model asks of every byte's. Assumes nothing.
use Prim.Native.Nat.{ℕ, ◌+◌, ◌-◌, ◌/◌, ◌%◌, ◌≤◌, ◌<◌}
use mathlib.Core.Bool.{Bool, true, false}
use mathlib.Core.Logic.{⊎_elim}
use mathlib.Core.Path.{◌≡◌, sym, ap, ◌∙◌}
use native.Mathlib.Omega.{arith}
use lib.Dec.{leb}
use borrow.Author.Tests.{leb-true, leb-false}
use Rattle.lists.specs.Choice.{both, either}
use Rattle.lists.proofs.Choice.{true_or_false, both_true, both_same, either_left, either_no}
use Rattle.model.specs.declared.State.{State}
use Rattle.model.specs.Frames.{layout, frame_of}
use Rattle.model.specs.Keys.{allows_key, block_at, key_permits}
use Rattle.model.specs.Sizes.{frame_size}
use Rattle.model.specs.Tables.{cell_at}
use Rattle.model.proofs.Keys.{two_blocks}
use Rattle.keys.specs.declared.Guard.{Guard}
use Rattle.keys.specs.Guards.{guard_allows}

-- the guard of an access from address a on in slot u: the second block is asked about only where the access reaches it
module _ (s : State) (w : Bool) (u a n : ℕ) (g : Guard) (some : 1 ≤ n) (few : n ≤ frame_size) (here : g.block ≡ block_at s u a) where
  abbrev first : Bool
  first = allows_key w g.key (block_at s u a)

  -- whether the second is asked, and allows
  abbrev rest : Bool
  rest = either (leb (a % frame_size + n) frame_size) (allows_key w g.key g.beyond)

  two : key_permits s w g.key u a n ≡ both first (allows_key w g.key (block_at s u (a + (n - 1))))
  two = two_blocks s w g.key u a n some few

  within : leb (a % frame_size + n) frame_size ≡ true → guard_allows g w a n ≡ key_permits s w g.key u a n
  unfolding guard_allows
  within e =
      let h = leb-true (a % frame_size + n) frame_size e in
      let q : (a + (n - 1)) / frame_size ≡ a / frame_size = omega arith in
      ap (λ c. both (allows_key w g.key c) rest) here
      ∙ ap (both first) (either_left _ (allows_key w g.key g.beyond) e)
      ∙ both_true first
      ∙ sym (two ∙ ap (λ p. both first (allows_key w g.key (cell_at s.cells (frame_of (layout s) u p)))) q ∙ both_same first)

  across : leb (a % frame_size + n) frame_size ≡ false → (frame_size < a % frame_size + n → g.beyond ≡ cell_at s.cells (frame_of (layout s) u (a / frame_size + 1)))
      → guard_allows g w a n ≡ key_permits s w g.key u a n
  unfolding guard_allows
  across e next =
      let h = leb-false (a % frame_size + n) frame_size e in
      let q : (a + (n - 1)) / frame_size ≡ a / frame_size + 1 = omega arith in
      ap (λ c. both (allows_key w g.key c) rest) here
      ∙ ap (both first) (either_no _ e ∙ ap (allows_key w g.key) (next h))
      ∙ sym (two ∙ ap (λ p. both first (allows_key w g.key (cell_at s.cells (frame_of (layout s) u p)))) q)

  pub guarded : (frame_size < a % frame_size + n → g.beyond ≡ cell_at s.cells (frame_of (layout s) u (a / frame_size + 1)))
      → guard_allows g w a n ≡ key_permits s w g.key u a n
  guarded next = ⊎_elim within (λ e. across e next) (true_or_false (leb (a % frame_size + n) frame_size))
