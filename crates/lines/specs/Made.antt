-- The request that values make.
use Rattle.std.specs.Prelude.{ℕ, ◌+◌, ◌%◌, List, [], ◌∷◌}
use Rattle.model.specs.declared.Operation.{Operation}
use Rattle.model.specs.declared.Request.{Request}
use Rattle.model.specs.declared.Request.TheVariants.{Call}
use Rattle.model.specs.Lines.{form_at, FieldKind, number, name, right, hex, at}

-- The code holds every value in 64 bits, and takes the lower 32 of what is a number or a count.
unfoldable pub low : FieldKind → ℕ → ℕ
low number v = v % 4294967296
low name v = v
low right v = v
low hex v = v % 4294967296

-- the values of the kinds ks, from place i of v on
unfoldable pub lowered : List FieldKind → ℕ → List ℕ → List ℕ
lowered [] i v = []
lowered (k ∷ ks) i v = low k (at v i) ∷ lowered ks (i + 1) v

-- the request of a call
abbrev pub asked_by : (guest : ℕ) → Operation → (length : ℕ) → Request
asked_by g o n = Call (record { caller = record { guest = g }; operation = o }) n

-- the request that the values of v make of the call p
unfoldable pub made_by : ℕ → List ℕ → Request
made_by p v = (form_at p).make (lowered (form_at p).kinds 0 v)
