-- Paper 02, M-102, of a line: an argument's place is the number of its field, counted from 1 at the caller's, which is the first
-- after the call's name.
use Rattle.std.specs.Prelude.{ℕ, min, ◌-◌, List, [], ◌∷◌, ◌≡◌}
use Rattle.model.specs.declared.Guest.{Guest}
use Rattle.model.specs.declared.Request.{Request}
use Rattle.model.specs.declared.Request.TheVariants.{Frames, Call, NotRead}
use Rattle.model.specs.Arguments.{Argument, arguments}
use Rattle.model.specs.Lines.{Form, at, forms}

-- the arguments with limits that a line asks for. A length "above 257 .. is carried out as 257"; F, the only field of its line, has
-- place 1 in any case
abbrev pub arguments_in : List Guest → Request → List Argument
arguments_in gs (Frames f) = []
arguments_in gs (Call k n) = arguments gs k.caller k.operation (min n 257)
arguments_in gs NotRead = []

-- Two lines' arguments are of the same kinds at the same places, and where the fields at an argument's place have one value, it is
-- inside its limits in both lines or in neither. v and w are the values of the fields.
pub data ByFields (v w : List ℕ) : (first second : List Argument) → Type 0 where
  none : ByFields v w [] []
  next : {a b : Argument} {more rest : List Argument} → a.place ≡ b.place → a.kind ≡ b.kind → (at v (a.place - 1) ≡ at w (a.place - 1) → a.fits ≡ b.fits)
      → ByFields v w more rest → ByFields v w (a ∷ more) (b ∷ rest)

pub data EachForm (P : Form → Type 0) : List Form → Type 0 where
  end : EachForm P []
  and : {f : Form} {more : List Form} → P f → EachForm P more → EachForm P (f ∷ more)

-- of any two lines of one form by one caller
abbrev pub PlacesAreFields : Type 0
PlacesAreFields = (gs : List Guest) (v w : List ℕ) → at v 0 ≡ at w 0 → EachForm (λ f. ByFields v w (arguments_in gs (f.make v)) (arguments_in gs (f.make w))) forms
