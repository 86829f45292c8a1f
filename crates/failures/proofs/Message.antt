-- A message, choice by choice. Assumes nothing.
use Prim.Native.Nat.{ℕ}
use mathlib.Core.Bool.{Bool}
use mathlib.Core.List.{List, [], ◌∷◌, ◌++◌}
use mathlib.Core.Path.{◌≡◌}
use borrow.Author.Tests.{eq-eqb, ne_eqb}
use Rattle.lists.specs.Choice.{choose}
use Rattle.lists.specs.Text.{bytes}
use Rattle.lists.proofs.Choice.{yes!, no! }
use Rattle.digits.specs.declared.Text.{Text}
use Rattle.digits.specs.Wrote.{Adds}
use Rattle.digits.proofs.Writing.{adds_more}
use Rattle.model.specs.Session.{decimal}
use Rattle.relay.specs.declared.Failure.{Failure}
use Rattle.relay.specs.declared.Failure.TheVariants.{Reading, Writing}
use Rattle.failures.specs.Message.{is_reading, error_of, kind_text, failure_text, place_text, message_text}

module _ {t u : Text} (first last : List ℕ) (line : ℕ) where
  pub place_none : line ≡ 0 → Adds t (bytes ") before " ++ (first ++ (10 ∷ []))) u → Adds t (place_text first last line) u
  unfolding place_text
  place_none e w = rw (yes! _ _ (eq-eqb line 0 e)) w

  pub place_line : (line ≡ 0 → ⊥) → Adds t (bytes ") after " ++ (last ++ (decimal line ++ (10 ∷ [])))) u → Adds t (place_text first last line) u
  unfolding place_text
  place_line e w = rw (no! _ _ (ne_eqb line 0 e)) w

module _ {t u v : Text} {f : Failure} {e k : ℕ} where
  pub reading_told : f ≡ Reading e → k ≡ e → Adds t (bytes ": reading failed (error ") u → Adds u (decimal k) v → Adds t (kind_text (is_reading f) ++ decimal (error_of f)) v
  unfolding kind_text choose
  reading_told is same a b = rw (is, ← same) (adds_more a b)

  pub writing_told : f ≡ Writing e → k ≡ e → Adds t (bytes ": writing failed (error ") u → Adds u (decimal k) v → Adds t (kind_text (is_reading f) ++ decimal (error_of f)) v
  unfolding kind_text choose
  writing_told is same a b = rw (is, ← same) (adds_more a b)

pub message_whole : {t u₁ u₂ u₃ : Text} (name first last : List ℕ) (reading : Bool) (error line : ℕ)
    → Adds t name u₁ → Adds u₁ (kind_text reading ++ decimal error) u₂ → Adds u₂ (place_text first last line) u₃ → Adds t (message_text name first last reading error line) u₃
unfolding message_text failure_text
message_whole name first last reading error line w₁ w₂ w₃ = adds_more (adds_more w₁ w₂) w₃
