-- Number and value tell the whole answer: a caller is handed nothing besides. The numbers 31 to 40 are those of an argument outside
-- its limits, and of nothing else. Assumes nothing.
use Prim.Native.Nat.{ℕ}
use mathlib.Core.Bool.{true, false}
use mathlib.Core.Logic.{◌≢◌}
use mathlib.Core.Path.{◌≡◌, refl, sym, ap₂, ◌∙◌}
use lib.Dec.{eqb}
use Rattle.lists.specs.Choice.{choose, both}
use Rattle.model.specs.declared.Answer.{Answer}
use Rattle.model.specs.declared.Answer.TheVariants.{Done, Unsound, BadCaller, Limit, NameTaken, NoSpace, NotOwner, NoSharing, AllowanceUsed, SlotsUsed, NoRun, NoIdentification, NotPermitted, ListFull, AletSpecification, AlenTranslation, AddressingCapability, Addressing, Protection, SpecialOperation, PrimarySpace, LineNotRead, KeyProtection, RoomTooSmall, NotWritten}
use Rattle.model.specs.declared.Kind.{Kind}
use Rattle.model.specs.declared.Kind.TheVariants.{Pages, Allowance, ListSize, Flag, Name, Register, Length, OtherGuest, Frames, Key}
use Rattle.model.specs.Answers.{limit_number, names_argument, number, value}

-- the kind and the answer with a number
unfoldable kind_from : ℕ → Kind
kind_from n =
    choose (eqb n 31) Pages
    (choose (eqb n 32) Allowance
    (choose (eqb n 33) ListSize
    (choose (eqb n 34) Flag
    (choose (eqb n 35) Name
    (choose (eqb n 36) Register
    (choose (eqb n 37) Length
    (choose (eqb n 38) OtherGuest
    (choose (eqb n 39) Frames Key))))))))

unfoldable answer_from : (number value : ℕ) → Answer
answer_from n v =
    choose (eqb n 0) (Done v)
    (choose (eqb n 1) Unsound
    (choose (eqb n 2) BadCaller
    (choose (eqb n 4) NameTaken
    (choose (eqb n 5) NoSpace
    (choose (eqb n 6) NotOwner
    (choose (eqb n 7) NoSharing
    (choose (eqb n 8) AllowanceUsed
    (choose (eqb n 9) SlotsUsed
    (choose (eqb n 10) NoRun
    (choose (eqb n 11) NoIdentification
    (choose (eqb n 12) NotPermitted
    (choose (eqb n 13) ListFull
    (choose (eqb n 14) AletSpecification
    (choose (eqb n 15) AlenTranslation
    (choose (eqb n 16) AddressingCapability
    (choose (eqb n 17) Addressing
    (choose (eqb n 18) Protection
    (choose (eqb n 19) SpecialOperation
    (choose (eqb n 20) PrimarySpace
    (choose (eqb n 21) LineNotRead
    (choose (eqb n 22) KeyProtection
    (choose (eqb n 41) RoomTooSmall
    (choose (eqb n 42) NotWritten (Limit (kind_from n) v))))))))))))))))))))))))

limit_back : (k : Kind) (p : ℕ) → answer_from (limit_number k) p ≡ Limit k p
unfolding answer_from kind_from limit_number choose
limit_back Pages p = refl
limit_back Allowance p = refl
limit_back ListSize p = refl
limit_back Flag p = refl
limit_back Name p = refl
limit_back Register p = refl
limit_back Length p = refl
limit_back OtherGuest p = refl
limit_back Frames p = refl
limit_back Key p = refl

answer_back : (a : Answer) → answer_from (number a) (value a) ≡ a
unfolding number value answer_from choose
answer_back (Done v) = refl
answer_back (Limit k p) = limit_back k p
answer_back Unsound = refl
answer_back BadCaller = refl
answer_back NameTaken = refl
answer_back NoSpace = refl
answer_back NotOwner = refl
answer_back NoSharing = refl
answer_back AllowanceUsed = refl
answer_back SlotsUsed = refl
answer_back NoRun = refl
answer_back NoIdentification = refl
answer_back NotPermitted = refl
answer_back ListFull = refl
answer_back AletSpecification = refl
answer_back AlenTranslation = refl
answer_back AddressingCapability = refl
answer_back Addressing = refl
answer_back Protection = refl
answer_back SpecialOperation = refl
answer_back PrimarySpace = refl
answer_back LineNotRead = refl
answer_back KeyProtection = refl
answer_back RoomTooSmall = refl
answer_back NotWritten = refl

pub answer_told : (a b : Answer) → number a ≡ number b → value a ≡ value b → a ≡ b
answer_told a b n v = sym (answer_back a) ∙ ap₂ answer_from n v ∙ answer_back b

pub argument_named : (k : Kind) → names_argument (limit_number k) ≡ true
unfolding limit_number names_argument both
argument_named Pages = refl
argument_named Allowance = refl
argument_named ListSize = refl
argument_named Flag = refl
argument_named Name = refl
argument_named Register = refl
argument_named Length = refl
argument_named OtherGuest = refl
argument_named Frames = refl
argument_named Key = refl

-- any other answer names none
pub other_unnamed : (a : Answer) → ((k : Kind) (p : ℕ) → a ≢ Limit k p) → names_argument (number a) ≡ false
unfolding number names_argument both
other_unnamed (Done v) n = refl
other_unnamed (Limit k p) n = absurd (n k p refl)
other_unnamed Unsound n = refl
other_unnamed BadCaller n = refl
other_unnamed NameTaken n = refl
other_unnamed NoSpace n = refl
other_unnamed NotOwner n = refl
other_unnamed NoSharing n = refl
other_unnamed AllowanceUsed n = refl
other_unnamed SlotsUsed n = refl
other_unnamed NoRun n = refl
other_unnamed NoIdentification n = refl
other_unnamed NotPermitted n = refl
other_unnamed ListFull n = refl
other_unnamed AletSpecification n = refl
other_unnamed AlenTranslation n = refl
other_unnamed AddressingCapability n = refl
other_unnamed Addressing n = refl
other_unnamed Protection n = refl
other_unnamed SpecialOperation n = refl
other_unnamed PrimarySpace n = refl
other_unnamed LineNotRead n = refl
other_unnamed KeyProtection n = refl
other_unnamed RoomTooSmall n = refl
other_unnamed NotWritten n = refl
