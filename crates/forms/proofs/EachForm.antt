-- What holds of each form holds of the form at a place. Assumes nothing.
use Prim.Native.Nat.{ℕ, zero, suc, ◌<◌}
use mathlib.Core.List.{List, [], ◌∷◌}
use native.Mathlib.Omega.{arith}
use lib.ListN.{length, get_or}
use Rattle.model.specs.Lines.{Form, no_form}
use Rattle.model.specs.Places.{EachForm, and}

pub each_at : {P : Form → Type 0} (fs : List Form) → EachForm P fs → (p : ℕ) → p < length fs → P (get_or fs p no_form)
each_at [] e p h = absurd (omega arith)
each_at (f ∷ fs) (and s e) zero h = s
each_at (f ∷ fs) (and s e) (suc p) h = each_at fs e p (omega arith)
