-- Translation on what it reads: the slot of the guest's primary space, the length of its list and one entry. Where that entry
-- is the one that the token names, it is the translation of paper 01 (proofs/Translated).
use Rattle.std.specs.Prelude.{ℕ, ◌+◌, ◌-◌, ◌*◌, not, leb, eqb, Err}
use Rattle.lists.specs.Choice.{choose, both}
use Rattle.entries.specs.Assigned.{assigned_to}
use Rattle.model.specs.declared.Answer.TheVariants.{AletSpecification, AlenTranslation}
use Rattle.model.specs.declared.Entry.{Entry}
use Rattle.model.specs.declared.Right.TheVariants.{Write}
use Rattle.model.specs.Tokens.{malformed, entry_number}
use Rattle.model.specs.Translation.{Translation, reaches, through_standing}

-- where the entry that a token names stands, for the guest at a place; its first entry where the token names none
unfoldable pub token_place : (place token : ℕ) → ℕ
token_place k t =
    choose (both (leb 2 (entry_number t)) (leb (entry_number t) 31)) (k * 30 + (entry_number t - 2)) (k * 30)

unfoldable pub translated_by : (home list : ℕ) → Entry → (token : ℕ) → Translation
translated_by h l e t =
    choose (eqb t 0) (reaches h Write)
    (choose (malformed t) (Err AletSpecification)
    (choose (not (assigned_to e l t)) (Err AlenTranslation)
    (through_standing e.standing)))
