-- The arguments of each call with their limits, which are paper 01's and M-100's; and of paper 02, M-102, "Tell us which field was
-- wrong", their kinds and places. They are checked from left to right, after check 2.
use Rattle.std.specs.Prelude.{ℕ, suc, Bool, not, List, [], ◌∷◌, leb, eqb}
use Rattle.lists.specs.Choice.{both}
use Rattle.model.specs.declared.Answer.TheVariants.{Limit}
use Rattle.model.specs.declared.Caller.{Caller}
use Rattle.model.specs.declared.Guest.{Guest}
use Rattle.model.specs.declared.Kind.{Kind}
use Rattle.model.specs.declared.Kind.TheVariants.{Pages, Allowance, ListSize, Flag, Name, Register, Length, OtherGuest, Key as AnyKey}
use Rattle.model.specs.declared.Operation.{Operation}
use Rattle.model.specs.declared.Operation.TheVariants.{Enrol, Create, Destroy, Permit, Isolate, Query, Add, Remove, Load, Mode, Fetch, Store, Reset, Key, Block}
use Rattle.model.specs.declared.Settings.{Settings}
use Rattle.model.specs.Decision.{Decision, check}
use Rattle.model.specs.Names.{good_name}
use Rattle.model.specs.Searches.{enrolled}
use Rattle.model.specs.Sizes.{guest_count, max_pages, max_allowance, max_list, max_transfer, max_key}

-- What is asked of an argument: nothing, or that it lies inside the limits of its kind.
pub data Asked : Type 0 where
  anything : Asked
  limited : Kind → (fits : Bool) → Asked

-- an argument that has limits, with its place
pub record Argument : Type 0 where
  pub fits : Bool
  pub kind : Kind
  pub place : ℕ

-- "pages 1-512"
abbrev pub good_pages : ℕ → Bool
good_pages n = both (leb 1 n) (leb n max_pages)

-- "share 0/1", "ASF 0/1", "MODE 0 primary, 1 access-register"; paper 02, M-100: "mark (0 or 1)"
abbrev pub good_flag : ℕ → Bool
good_flag n = leb n 1

-- paper 02, M-100: "all keys are 0 to 15"
abbrev pub good_key : ℕ → Bool
good_key n = leb n max_key

-- "LOAD register 0-15"
abbrev pub good_register : ℕ → Bool
good_register r = leb r 15

-- "A fetch or store moves 1 to 256 bytes"
abbrev pub good_length : ℕ → Bool
good_length n = both (leb 1 n) (leb n max_transfer)

-- PERMIT: "h not 1 to 8, not enrolled, or the caller itself" is outside
abbrev pub good_other : List Guest → Caller → (guest : ℕ) → Bool
good_other gs c h = both (enrolled gs h) (not (eqb h c.guest))

-- ENROL's arguments after its guest, in the paper's order
abbrev pub settings_of : (pages allowance share list asf : ℕ) → Settings
settings_of pages allowance share list asf = record { pages = pages; allowance = allowance; share = share; list = list; asf = asf }

-- Every argument after the caller, in the order of the call's form; a transfer's length, that of the lent buffer, "counts as last".
abbrev pub asked : List Guest → Caller → Operation → (buffer : ℕ) → List Asked
asked gs c (Enrol x) n =
    limited Pages (good_pages x.pages)
    ∷ limited Allowance (leb x.allowance max_allowance)
    ∷ limited Flag (good_flag x.share)
    ∷ limited ListSize (both (leb 1 x.list) (leb x.list max_list))
    ∷ limited Flag (good_flag x.asf)
    ∷ []
asked gs c (Create name pages) n = limited Name (good_name name) ∷ limited Pages (good_pages pages) ∷ []
asked gs c (Destroy id) n = anything ∷ []
asked gs c (Permit id guest right) n = anything ∷ limited OtherGuest (good_other gs c guest) ∷ anything ∷ []
asked gs c (Isolate id) n = anything ∷ []
asked gs c (Query owner name) n = limited OtherGuest (both (leb 1 owner) (leb owner guest_count)) ∷ limited Name (good_name name) ∷ []
asked gs c (Add id right) n = anything ∷ anything ∷ []
asked gs c (Remove token) n = anything ∷ []
asked gs c (Load register value) n = limited Register (good_register register) ∷ anything ∷ []
asked gs c (Mode mode) n = limited Flag (good_flag mode) ∷ []
asked gs c (Fetch register address) n = limited Register (good_register register) ∷ anything ∷ limited Length (good_length n) ∷ []
asked gs c (Store register address) n = limited Register (good_register register) ∷ anything ∷ limited Length (good_length n) ∷ []
asked gs c Reset n = []
asked gs c (Key key) n = limited AnyKey (good_key key) ∷ []
asked gs c (Block id address key mark) n = anything ∷ anything ∷ limited AnyKey (good_key key) ∷ limited Flag (good_flag mark) ∷ []

-- those that have limits, where the first of the list has the given place
abbrev pub placed_from : (place : ℕ) → List Asked → List Argument
placed_from p [] = []
placed_from p (anything ∷ more) = placed_from (suc p) more
placed_from p (limited k b ∷ more) = record { fits = b; kind = k; place = p } ∷ placed_from (suc p) more

-- "the argument's place, counted from 1 with the caller as 1"
unfoldable pub arguments : List Guest → Caller → Operation → (buffer : ℕ) → List Argument
arguments gs c k n = placed_from 2 (asked gs c k n)

-- "where several are wrong, the leftmost": it refuses, whatever the others are
unfoldable pub check_all : List Argument → Decision → Decision
check_all [] d = d
check_all (a ∷ more) d = check a.fits (Limit a.kind a.place) (check_all more d)
