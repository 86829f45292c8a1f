-- FRAMES of a session, by its F and by what came before. Assumes nothing.
use Prim.Native.Nat.{ℕ, ◌≤◌}
use mathlib.Core.Bool.{true, false}
use mathlib.Core.Path.{◌≡◌, refl}
use lib.Dec.{leb}
use borrow.Author.Tests.{leb-true}
use Rattle.lists.specs.Choice.{choose, both}
use Rattle.lists.proofs.Choice.{not_so, both_left, both_right}
use Rattle.model.specs.Answers.{limit_number, number, value}
use Rattle.model.specs.Session.{Session, frames_turn}

-- outside 1 to 8: 39 with the value 1, and nothing has begun
pub frames_outside : (s : Session) (F : ℕ) → s.begun ≡ false → (1 ≤ F → F ≤ 8 → ⊥)
    → (number (frames_turn s F).outcome.answer ≡ 39) × (value (frames_turn s F).outcome.answer ≡ 1) × ((frames_turn s F).after ≡ s)
unfolding frames_turn choose number value limit_number
frames_outside s F b out =
    let q = not_so (both (leb 1 F) (leb F 8)) (λ e. out (leb-true 1 F (both_left _ _ e)) (leb-true F 8 (both_right (leb 1 F) _ e))) in
    rw (b, q) (refl, refl, refl)

-- after a done one it is not read, whatever its F
pub frames_again : (s : Session) (F : ℕ) → s.begun ≡ true → (number (frames_turn s F).outcome.answer ≡ 21) × ((frames_turn s F).after ≡ s)
unfolding frames_turn choose number
frames_again s F b = rw b (refl, refl)
