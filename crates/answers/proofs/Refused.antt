-- What the answer of an argument outside its limits carries; any other but that of a done call carries 0. Assumes nothing.
use Prim.Native.Nat.{ℕ}
use mathlib.Core.List.{[], ◌∷◌}
use mathlib.Core.Path.{◌≡◌, refl, sym, ap, ◌∙◌}
use denote.Enum.Declared.{tag_of}
use types.Run.{OneOf, miss}
use Rattle.model.specs.declared.Answer.{Answer}
use Rattle.model.specs.declared.Answer.TheVariants.{Done, Unsound, BadCaller, Limit, NameTaken, NoSpace, NotOwner, NoSharing, AllowanceUsed, SlotsUsed, NoRun, NoIdentification, NotPermitted, ListFull, AletSpecification, AlenTranslation, AddressingCapability, Addressing, Protection, SpecialOperation, PrimarySpace, LineNotRead, KeyProtection, RoomTooSmall, NotWritten}
use Rattle.model.specs.declared.Kind.{Kind}
use Rattle.model.specs.Answers.{limit_number, number, value}
use Rattle.model.specs.contracts.Answer.{the_type}

pub argument_number : {a : Answer} {k : Kind} {p n : ℕ} → a ≡ Limit k p → n ≡ limit_number k → n ≡ number a
unfolding number
argument_number e q = q ∙ sym (ap number e)

pub argument_value : {a : Answer} {k : Kind} {p n : ℕ} → a ≡ Limit k p → n ≡ p → n ≡ value a
unfolding value
argument_value e q = q ∙ sym (ap value e)

pub refused : (a : Answer) → OneOf (1 ∷ 2 ∷ 4 ∷ 5 ∷ 6 ∷ 7 ∷ 8 ∷ 9 ∷ 10 ∷ 11 ∷ 12 ∷ 13 ∷ 14 ∷ 15 ∷ 16 ∷ 17 ∷ 18 ∷ 19 ∷ 20 ∷ 21 ∷ 22 ∷ 23 ∷ 24 ∷ []) (tag_of the_type a) → 0 ≡ value a
unfolding value
refused (Done v) h = absurd (miss (1 ∷ 2 ∷ 4 ∷ 5 ∷ 6 ∷ 7 ∷ 8 ∷ 9 ∷ 10 ∷ 11 ∷ 12 ∷ 13 ∷ 14 ∷ 15 ∷ 16 ∷ 17 ∷ 18 ∷ 19 ∷ 20 ∷ 21 ∷ 22 ∷ 23 ∷ 24 ∷ []) 0 tt h)
refused Unsound h = refl
refused BadCaller h = refl
refused (Limit k p) h = absurd (miss (1 ∷ 2 ∷ 4 ∷ 5 ∷ 6 ∷ 7 ∷ 8 ∷ 9 ∷ 10 ∷ 11 ∷ 12 ∷ 13 ∷ 14 ∷ 15 ∷ 16 ∷ 17 ∷ 18 ∷ 19 ∷ 20 ∷ 21 ∷ 22 ∷ 23 ∷ 24 ∷ []) 3 tt h)
refused NameTaken h = refl
refused NoSpace h = refl
refused NotOwner h = refl
refused NoSharing h = refl
refused AllowanceUsed h = refl
refused SlotsUsed h = refl
refused NoRun h = refl
refused NoIdentification h = refl
refused NotPermitted h = refl
refused ListFull h = refl
refused AletSpecification h = refl
refused AlenTranslation h = refl
refused AddressingCapability h = refl
refused Addressing h = refl
refused Protection h = refl
refused SpecialOperation h = refl
refused PrimarySpace h = refl
refused LineNotRead h = refl
refused KeyProtection h = refl
refused RoomTooSmall h = refl
refused NotWritten h = refl
