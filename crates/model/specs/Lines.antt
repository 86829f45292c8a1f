-- Paper 01, "The session program": the form of a line. "one request a line, fields parted by tabs, call name first, then the
-- caller, then the arguments as listed above; rights R or W; store data as uppercase hex pairs." A line is given without its
-- newline. Whatever is not of this form is not read: 21.
use Rattle.std.specs.Prelude.{ℕ, ◌+◌, ◌-◌, ◌*◌, ◌/◌, ◌%◌, Bool, true, false, not, List, [], ◌∷◌, ◌++◌, length, get_or, replicate, leb, eqb}
use Prim.Native.String.{String}
use Rattle.lists.specs.Choice.{choose, both, either}
use Rattle.lists.specs.Text.{byte, bytes}
use Rattle.model.specs.declared.Operation.{Operation}
use Rattle.model.specs.declared.Operation.TheVariants.{Enrol, Create, Destroy, Permit, Isolate, Query, Add, Remove, Load, Mode, Fetch, Store, Reset, Key, Block}
use Rattle.model.specs.declared.Request.{Request}
use Rattle.model.specs.declared.Request.TheVariants.{Frames, Call, NotRead}
use Rattle.model.specs.declared.Right.{Right}
use Rattle.model.specs.declared.Right.TheVariants.{Read, Write}
use Rattle.model.specs.Arguments.{settings_of}
use Rattle.model.specs.Classes.{is_store}
use Rattle.model.specs.Names.{digit}

-- "fields parted by tabs": a line of n tabs has n + 1 fields, some perhaps empty
abbrev onto : ℕ → List (List ℕ) → List (List ℕ)
onto b [] = (b ∷ []) ∷ []
onto b (f ∷ fs) = (b ∷ f) ∷ fs

unfoldable pub fields : List ℕ → List (List ℕ)
fields [] = [] ∷ []
fields (b ∷ bs) = choose (eqb b (byte "\t")) ([] ∷ fields bs) (onto b (fields bs))

-- What a field spells, or that it is not of its kind.
pub data Spelt : Type 0 where
  is : ℕ → Spelt
  bad : Spelt

unfoldable pub spelt : Bool → ℕ → Spelt
spelt true n = is n
spelt false n = bad

-- "Numbers are decimal, no leading zeros, at most 4,294,967,295."
unfoldable pub digits : List ℕ → Bool
digits [] = true
digits (b ∷ bs) = both (digit b) (digits bs)

unfoldable pub decimal_from : (sum : ℕ) → List ℕ → ℕ
decimal_from n [] = n
decimal_from n (b ∷ bs) = decimal_from (n * 10 + (b - byte "0")) bs

-- one zero, or no zero first
unfoldable pub plain : List ℕ → Bool
plain [] = false
plain (b ∷ []) = true
plain (b ∷ c ∷ cs) = not (eqb b (byte "0"))

unfoldable pub number_field : List ℕ → Spelt
number_field f = spelt (both (both (plain f) (digits f)) (leb (decimal_from 0 f) 4294967295)) (decimal_from 0 f)

-- not read are "a name field empty, over 8 bytes or holding a blank"; any other bytes are read, and judged by the call
unfoldable pub no_blank : List ℕ → Bool
no_blank [] = true
no_blank (b ∷ bs) = both (not (eqb b (byte " "))) (no_blank bs)

unfoldable pub packed : (sum : ℕ) → List ℕ → ℕ
packed n [] = n
packed n (b ∷ bs) = packed (n * 256 + b) bs

-- padded with blanks on the right to 8 bytes, first byte highest
unfoldable pub packed_name : List ℕ → ℕ
packed_name f = packed 0 (f ++ replicate (8 - length f) (byte " "))

unfoldable pub name_field : List ℕ → Spelt
name_field f = spelt (both (both (leb 1 (length f)) (leb (length f) 8)) (no_blank f)) (packed_name f)

-- "rights R or W": 0 and 1
unfoldable pub right_field : List ℕ → Spelt
right_field [] = bad
right_field (b ∷ []) = choose (eqb b (byte "R")) (is 0) (choose (eqb b (byte "W")) (is 1) bad)
right_field (b ∷ c ∷ cs) = bad

-- "store data as uppercase hex pairs", at most 257 bytes; "Empty hex is length 0." The field spells the number of bytes.
unfoldable pub hex_digit : ℕ → Bool
hex_digit b = either (digit b) (both (leb (byte "A") b) (leb b (byte "F")))

unfoldable pub hex_value : ℕ → ℕ
hex_value b = choose (digit b) (b - byte "0") (b - 55)

unfoldable pub hex_digits : List ℕ → Bool
hex_digits [] = true
hex_digits (b ∷ bs) = both (hex_digit b) (hex_digits bs)

unfoldable pub hex_field : List ℕ → Spelt
hex_field f = spelt (both (both (eqb (length f % 2) 0) (leb (length f) 514)) (hex_digits f)) (length f / 2)

unfoldable pub hex_bytes : List ℕ → List ℕ
hex_bytes [] = []
hex_bytes (h ∷ []) = []
hex_bytes (h ∷ l ∷ rest) = (hex_value h * 16 + hex_value l) ∷ hex_bytes rest

-- What all fields after the call's name spell: as many as the call has, each of its kind.
pub data FieldKind : Type 0 where
  number : FieldKind
  name : FieldKind
  right : FieldKind
  hex : FieldKind

unfoldable pub field_of : FieldKind → List ℕ → Spelt
field_of number f = number_field f
field_of name f = name_field f
field_of right f = right_field f
field_of hex f = hex_field f

pub data Values : Type 0 where
  values : List ℕ → Values
  unread : Values

unfoldable pub and_then : Spelt → Values → Values
and_then bad vs = unread
and_then (is n) unread = unread
and_then (is n) (values ns) = values (n ∷ ns)

unfoldable pub read_fields : List FieldKind → List (List ℕ) → Values
read_fields [] [] = values []
read_fields [] (f ∷ fs) = unread
read_fields (k ∷ ks) [] = unread
read_fields (k ∷ ks) (f ∷ fs) = and_then (field_of k f) (read_fields ks fs)

-- A call's form: its name, the kinds of the fields after it, and the request that their values make. The caller is the first.
pub record Form : Type 0 where
  pub word : List ℕ
  pub kinds : List FieldKind
  pub make : List ℕ → Request

abbrev form : (word : String) → List FieldKind → (List ℕ → Request) → Form
form w ks m = record { word = bytes w; kinds = ks; make = m }

abbrev pub at : List ℕ → ℕ → ℕ
at v k = get_or v k 0

unfoldable pub right_of : ℕ → Right
right_of n = choose (eqb n 0) Read Write

abbrev call : List ℕ → Operation → (length : ℕ) → Request
call v o n = Call (record { caller = record { guest = at v 0 }; operation = o }) n

unfoldable pub forms : List Form
forms =
    form "FRAMES" (number ∷ []) (λ v. Frames (at v 0))
    ∷ form "ENROL" (number ∷ number ∷ number ∷ number ∷ number ∷ number ∷ []) (λ v. call v (Enrol (settings_of (at v 1) (at v 2) (at v 3) (at v 4) (at v 5))) 0)
    ∷ form "CREATE" (number ∷ name ∷ number ∷ []) (λ v. call v (Create (at v 1) (at v 2)) 0)
    ∷ form "DESTROY" (number ∷ number ∷ []) (λ v. call v (Destroy (at v 1)) 0)
    ∷ form "PERMIT" (number ∷ number ∷ number ∷ right ∷ []) (λ v. call v (Permit (at v 1) (at v 2) (right_of (at v 3))) 0)
    ∷ form "ISOLATE" (number ∷ number ∷ []) (λ v. call v (Isolate (at v 1)) 0)
    ∷ form "QUERY" (number ∷ number ∷ name ∷ []) (λ v. call v (Query (at v 1) (at v 2)) 0)
    ∷ form "ADD" (number ∷ number ∷ right ∷ []) (λ v. call v (Add (at v 1) (right_of (at v 2))) 0)
    ∷ form "REMOVE" (number ∷ number ∷ []) (λ v. call v (Remove (at v 1)) 0)
    ∷ form "LOAD" (number ∷ number ∷ number ∷ []) (λ v. call v (Load (at v 1) (at v 2)) 0)
    ∷ form "MODE" (number ∷ number ∷ []) (λ v. call v (Mode (at v 1)) 0)
    -- "has the length last; the request keeps the number"
    ∷ form "FETCH" (number ∷ number ∷ number ∷ number ∷ []) (λ v. call v (Fetch (at v 1) (at v 2)) (at v 3))
    ∷ form "STORE" (number ∷ number ∷ number ∷ hex ∷ []) (λ v. call v (Store (at v 1) (at v 2)) (at v 3))
    ∷ form "RESET" (number ∷ []) (λ v. call v Reset 0)
    ∷ form "KEY" (number ∷ number ∷ []) (λ v. call v (Key (at v 1)) 0)
    ∷ form "BLOCK" (number ∷ number ∷ number ∷ number ∷ number ∷ []) (λ v. call v (Block (at v 1) (at v 2) (at v 3) (at v 4)) 0)
    ∷ []

-- how many forms there are; each by its number, from 0 on; past the last, one that reads nothing
abbrev pub calls : ℕ
calls = length forms

abbrev pub no_form : Form
no_form = record { word = []; kinds = []; make = λ v. NotRead }

abbrev pub form_at : ℕ → Form
form_at p = get_or forms p no_form

unfoldable pub same_bytes : List ℕ → List ℕ → Bool
same_bytes [] [] = true
same_bytes [] (b ∷ bs) = false
same_bytes (a ∷ l) [] = false
same_bytes (a ∷ l) (b ∷ bs) = both (eqb a b) (same_bytes l bs)

unfoldable pub make_by : (List ℕ → Request) → Values → Request
make_by m unread = NotRead
make_by m (values vs) = m vs

-- the form whose name is the first field
unfoldable pub read_by : List Form → List ℕ → List (List ℕ) → Request
read_by [] w fs = NotRead
read_by (f ∷ more) w fs = choose (same_bytes f.word w) (make_by f.make (read_fields f.kinds fs)) (read_by more w fs)

unfoldable pub read_all : List (List ℕ) → Request
read_all [] = NotRead
read_all (w ∷ fs) = read_by forms w fs

-- not read is "a line over 600 bytes without its newline"; an empty line has no call's name
unfoldable pub read_line : List ℕ → Request
read_line l = choose (leb (length l) 600) (read_all (fields l)) NotRead

-- Store data stand beside the request, which has their length.
unfoldable pub stores : Request → Bool
stores (Frames f) = false
stores (Call k n) = is_store k.operation
stores NotRead = false

unfoldable pub length_of : Request → ℕ
length_of (Frames f) = 0
length_of (Call k n) = n
length_of NotRead = 0

-- the data of a line: those of a STORE that was read, its last field; of any other line none
unfoldable pub data_of : List ℕ → List ℕ
data_of l = choose (stores (read_line l)) (hex_bytes (get_or (fields l) 4 [])) []
