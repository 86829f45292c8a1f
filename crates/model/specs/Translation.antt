-- Paper 01, "Tokens and translation", after host access-register translation in the ESA/XC manual: from the token used to
-- a space and a right, or to the refusal that is due.
use Rattle.std.specs.Prelude.{ℕ, not, eqb, Result, Ok, Err}
use Rattle.lists.specs.Choice.{choose}
use Rattle.model.specs.declared.Answer.{Answer}
use Rattle.model.specs.declared.Answer.TheVariants.{AletSpecification, AlenTranslation, AddressingCapability}
use Rattle.model.specs.declared.Reach.{Reach}
use Rattle.model.specs.declared.Right.{Right}
use Rattle.model.specs.declared.Right.TheVariants.{Write}
use Rattle.model.specs.declared.Standing.{Standing}
use Rattle.model.specs.declared.Standing.TheVariants.{Unused, Valid, Revoked}
use Rattle.model.specs.declared.State.{State}
use Rattle.model.specs.Searches.{primary_slot}
use Rattle.model.specs.Tables.{guest_at, entry_at}
use Rattle.model.specs.Tokens.{malformed, assigned, entry_number}

-- a space and a right that are reached, or a refusal
abbrev pub Translation : Type 0
Translation = Result Reach Answer

abbrev pub reaches : (slot : ℕ) → Right → Translation
reaches u r = Ok (record { slot = u; right = r })

unfoldable pub through_standing : Standing → Translation
through_standing Unused = Err AlenTranslation
through_standing (Valid u r) = reaches u r
through_standing Revoked = Err AddressingCapability

-- "Token 0 means the guest's primary space with write."
unfoldable pub translate : State → (guest token : ℕ) → Translation
translate s g t =
    choose (eqb t 0) (reaches (primary_slot s.spaces g) Write)
    (choose (malformed t) (Err AletSpecification)
    (choose (not (assigned s.entries g (guest_at s.guests g).list t)) (Err AlenTranslation)
    (through_standing (entry_at s.entries g (entry_number t)).standing)))
