-- Paper 02, M-104, of requests as values: which form of a line a request has, the values of its fields, and the request made canonical.
use Rattle.std.specs.Prelude.{ℕ, List, [], ◌∷◌, take}
use Rattle.lists.specs.Choice.{choose}
use Rattle.model.specs.declared.Operation.{Operation}
use Rattle.model.specs.declared.Operation.TheVariants.{Enrol, Create, Destroy, Permit, Isolate, Query, Add, Remove, Load, Mode, Fetch, Store, Reset, Key, Block}
use Rattle.model.specs.declared.Request.{Request}
use Rattle.model.specs.declared.Request.TheVariants.{Frames, Call, NotRead}
use Rattle.model.specs.declared.Right.{Right}
use Rattle.model.specs.declared.Right.TheVariants.{Read, Write}
use Rattle.model.specs.Classes.{class_of, moves_bytes}
use Rattle.model.specs.Lines.{Form, calls, form_at, stores, length_of}

-- A request taken apart: the number of its form, its place in `forms`, and the values of the fields after the call's name.
pub record Parts : Type 0 where
  pub form : ℕ
  pub values : List ℕ

abbrev parted : ℕ → List ℕ → Parts
parted f v = record { form = f; values = v }

-- "rights R or W": 0 and 1
unfoldable pub right_number : Right → ℕ
right_number Read = 0
right_number Write = 1

unfoldable pub call_parts : (guest : ℕ) → Operation → (length : ℕ) → Parts
call_parts g (Enrol s) n = parted 1 (g ∷ s.pages ∷ s.allowance ∷ s.share ∷ s.list ∷ s.asf ∷ [])
call_parts g (Create name pages) n = parted 2 (g ∷ name ∷ pages ∷ [])
call_parts g (Destroy id) n = parted 3 (g ∷ id ∷ [])
call_parts g (Permit id guest right) n = parted 4 (g ∷ id ∷ guest ∷ right_number right ∷ [])
call_parts g (Isolate id) n = parted 5 (g ∷ id ∷ [])
call_parts g (Query owner name) n = parted 6 (g ∷ owner ∷ name ∷ [])
call_parts g (Add id right) n = parted 7 (g ∷ id ∷ right_number right ∷ [])
call_parts g (Remove token) n = parted 8 (g ∷ token ∷ [])
call_parts g (Load register value) n = parted 9 (g ∷ register ∷ value ∷ [])
call_parts g (Mode mode) n = parted 10 (g ∷ mode ∷ [])
call_parts g (Fetch register address) n = parted 11 (g ∷ register ∷ address ∷ n ∷ [])
call_parts g (Store register address) n = parted 12 (g ∷ register ∷ address ∷ n ∷ [])
call_parts g Reset n = parted 13 (g ∷ [])
call_parts g (Key key) n = parted 14 (g ∷ key ∷ [])
call_parts g (Block id address key mark) n = parted 15 (g ∷ id ∷ address ∷ key ∷ mark ∷ [])

-- what was not read has no form
unfoldable pub parts_of : Request → Parts
parts_of (Frames f) = parted 0 (f ∷ [])
parts_of (Call k n) = call_parts k.caller.guest k.operation n
parts_of NotRead = parted calls []

abbrev pub form_of : Request → Form
form_of q = form_at (parts_of q).form

-- A canonical request: what its line does not tell, the length of a call that moves no bytes, is 0.
unfoldable pub canonical : Request → Request
canonical (Frames f) = Frames f
canonical (Call k n) = Call k (choose (moves_bytes (class_of k.operation).moves) n 0)
canonical NotRead = NotRead

-- its data: of the bytes lent, those that a STORE writes
unfoldable pub data_in : Request → (lent : List ℕ) → List ℕ
data_in q d = choose (stores q) (take (length_of q) d) []
