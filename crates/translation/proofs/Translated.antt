-- Translation on what it reads is the translation of paper 01. Assumes nothing.
use Prim.Native.Nat.{ℕ, ◌+◌, ◌-◌, ◌*◌}
use mathlib.Core.Bool.{false, not}
use mathlib.Core.Logic.{◌≢◌}
use mathlib.Core.Path.{◌≡◌, refl, ap}
use Rattle.std.specs.Prelude.{Err}
use lib.Dec.{leb, eqb}
use lib.ListN.{get_or}
use borrow.Author.Tests.{le-leb, eqb-true, eqb-false}
use Rattle.lists.specs.Choice.{choose, both}
use Rattle.lists.proofs.Choice.{yes!, choose_eq, both_intro}
use Rattle.model.specs.declared.Answer.TheVariants.{AlenTranslation}
use Rattle.model.specs.declared.Right.TheVariants.{Write}
use Rattle.model.specs.declared.State.{State}
use Rattle.model.specs.Searches.{primary_slot, is_unused}
use Rattle.model.specs.Tables.{guest_at, no_guest, unused_entry}
use Rattle.model.specs.Tokens.{malformed, assigned, entry_number, upper_half}
use Rattle.model.specs.Translation.{Translation, reaches, through_standing, translate}
use Rattle.model.proofs.Tokens.{formed}
use Rattle.translation.specs.Translated.{token_place, translated_by}

pub named_place : (k t : ℕ) → t ≢ 0 → malformed t ≡ false → token_place k t ≡ k * 30 + (entry_number t - 2)
unfolding token_place
named_place k t z f =
    let i = (formed t z f).entry in
    yes! _ _ (both_intro _ _ (le-leb 2 (entry_number t) i.low) (le-leb (entry_number t) 31 i.high))

-- with the entry that the token names, and the slot of the primary where it is 0, it is the model's translation
pub translated_is : (s : State) (g k t h : ℕ) → k ≡ g - 1 → (t ≡ 0 → h ≡ primary_slot s.spaces g)
    → translated_by h (get_or s.guests k no_guest).list (get_or s.entries (token_place k t) unused_entry) t ≡ translate s g t
unfolding translated_by translate assigned
translated_is s g k t h q o =
    rw q
    (choose_eq (eqb t 0) (λ z. ap (λ u. reaches u Write) (o (eqb-true t 0 z))) (λ z.
    choose_eq (malformed t) (λ _. refl) (λ f.
    ap (λ p. let e = get_or s.entries p unused_entry in choose (not (both (leb (entry_number t) ((guest_at s.guests g).list + 1)) (both (not (is_unused e.standing)) (eqb e.sequence (upper_half t))))) (Err AlenTranslation) (through_standing e.standing))
    (named_place (g - 1) t (eqb-false t 0 z) f))))
