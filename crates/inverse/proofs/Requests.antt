-- Each request by itself: its form makes it again, canonical, from its own values. Assumes nothing.
use Prim.Native.Nat.{ℕ}
use mathlib.Core.Bool.{true}
use mathlib.Core.List.{List}
use mathlib.Core.Path.{◌≡◌}
use Rattle.lists.specs.Choice.{choose, both}
use Rattle.model.specs.declared.Operation.{Operation}
use Rattle.model.specs.declared.Operation.TheVariants.{Enrol, Create, Destroy, Permit, Isolate, Query, Add, Remove, Load, Mode, Fetch, Store, Reset, Key, Block}
use Rattle.model.specs.declared.Request.{Request}
use Rattle.model.specs.declared.Request.TheVariants.{Frames, Call, NotRead}
use Rattle.model.specs.declared.Right.TheVariants.{Read, Write}
use Rattle.model.specs.Lines.{forms, right_of, stores, length_of}
use Rattle.model.specs.Parts.{right_number, call_parts, parts_of, form_of, canonical, data_in}
use Rattle.inverse.proofs.WrittenFields.{shaped_one, shaped}

-- the values are in the shape of the form's kinds
abbrev Shaped : Request → Type 0
Shaped q = shaped (form_of q).kinds (parts_of q).values ≡ true

-- the form makes the request of them
abbrev Remade : Request → Type 0
Remade q = (form_of q).make (parts_of q).values ≡ canonical q

-- the canonical request has the same parts, and the same data
abbrev SameParts : Request → Type 0
SameParts q = parts_of (canonical q) ≡ parts_of q

abbrev SameData : Request → Type 0
SameData q = (d : List ℕ) → data_in (canonical q) d ≡ data_in q d

pub record Whole (q : Request) : Type 0 where
  pub shape : Shaped q
  pub remade : Remade q
  pub same_parts : SameParts q
  pub same_data : SameData q

all_four : {q : Request} → Shaped q → Remade q → SameParts q → SameData q → Whole q
all_four a b c d = record { shape = a; remade = b; same_parts = c; same_data = d }

whole_call : (g : ℕ) (o : Operation) (n : ℕ) → Whole (Call (record { caller = record { guest = g }; operation = o }) n)
unfolding forms right_of stores length_of right_number call_parts parts_of canonical data_in shaped_one shaped choose both
whole_call g (Enrol s) n = search all_four
whole_call g (Create a b) n = search all_four
whole_call g (Destroy a) n = search all_four
whole_call g (Permit a b Read) n = search all_four
whole_call g (Permit a b Write) n = search all_four
whole_call g (Isolate a) n = search all_four
whole_call g (Query a b) n = search all_four
whole_call g (Add a Read) n = search all_four
whole_call g (Add a Write) n = search all_four
whole_call g (Remove a) n = search all_four
whole_call g (Load a b) n = search all_four
whole_call g (Mode a) n = search all_four
whole_call g (Fetch a b) n = search all_four
whole_call g (Store a b) n = search all_four
whole_call g Reset n = search all_four
whole_call g (Key a) n = search all_four
whole_call g (Block a b c e) n = search all_four

pub whole : (q : Request) → Whole q
unfolding forms stores parts_of canonical data_in shaped_one shaped choose both
whole (Frames f) = search all_four
whole (Call k n) = whole_call k.caller.guest k.operation n
whole NotRead = search all_four
