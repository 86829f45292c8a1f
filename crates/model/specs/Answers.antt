-- Paper 01, "Answer numbers". A promise fixes the whole answer, and with it the paper's `number` and `value`.
use Rattle.std.specs.Prelude.{ℕ, Bool, leb}
use Rattle.lists.specs.Choice.{both}
use Rattle.model.specs.declared.Answer.{Answer}
use Rattle.model.specs.declared.Answer.TheVariants.{Done, Unsound, BadCaller, Limit, NameTaken, NoSpace, NotOwner, NoSharing, AllowanceUsed, SlotsUsed, NoRun, NoIdentification, NotPermitted, ListFull, AletSpecification, AlenTranslation, AddressingCapability, Addressing, Protection, SpecialOperation, PrimarySpace, LineNotRead, KeyProtection, RoomTooSmall, NotWritten}
use Rattle.model.specs.declared.Kind.{Kind}
use Rattle.model.specs.declared.Kind.TheVariants.{Pages, Allowance, ListSize, Flag, Name, Register, Length, OtherGuest, Frames, Key}

-- Paper 02, M-102: "31 for a page count, 32 for an allowance, 33 for a list size, 34 for a yes/no or mode value, 35 for a name, 36
-- for a register, 37 for a transfer length, 38 for another guest's number, 39 for F, 40 for a key."
unfoldable pub limit_number : Kind → ℕ
limit_number Pages = 31
limit_number Allowance = 32
limit_number ListSize = 33
limit_number Flag = 34
limit_number Name = 35
limit_number Register = 36
limit_number Length = 37
limit_number OtherGuest = 38
limit_number Frames = 39
limit_number Key = 40

-- whether an answer of this number names an argument
unfoldable pub names_argument : ℕ → Bool
names_argument n = both (leb 31 n) (leb n 40)

-- the column "No."
unfoldable pub number : Answer → ℕ
number (Done v) = 0
number Unsound = 1
number BadCaller = 2
number (Limit k p) = limit_number k
number NameTaken = 4
number NoSpace = 5
number NotOwner = 6
number NoSharing = 7
number AllowanceUsed = 8
number SlotsUsed = 9
number NoRun = 10
number NoIdentification = 11
number NotPermitted = 12
number ListFull = 13
number AletSpecification = 14
number AlenTranslation = 15
number AddressingCapability = 16
number Addressing = 17
number Protection = 18
number SpecialOperation = 19
number PrimarySpace = 20
number LineNotRead = 21
-- paper 02, M-100: "22, key protection"
number KeyProtection = 22
-- paper 02, M-104: "room too small for the line, 41; a request whose name or data the reader wouldn't take, 42"
number RoomTooSmall = 41
number NotWritten = 42

-- "Every refusal .. carries the value 0 unless its rule names another." M-102: "The value is the argument's place"
unfoldable pub value : Answer → ℕ
value (Done v) = v
value Unsound = 0
value BadCaller = 0
value (Limit k p) = p
value NameTaken = 0
value NoSpace = 0
value NotOwner = 0
value NoSharing = 0
value AllowanceUsed = 0
value SlotsUsed = 0
value NoRun = 0
value NoIdentification = 0
value NotPermitted = 0
value ListFull = 0
value AletSpecification = 0
value AlenTranslation = 0
value AddressingCapability = 0
value Addressing = 0
value Protection = 0
value SpecialOperation = 0
value PrimarySpace = 0
value LineNotRead = 0
value KeyProtection = 0
value RoomTooSmall = 0
value NotWritten = 0
