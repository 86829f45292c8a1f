-- A request taken apart, as the code holds it: six values, of which the first are those of the form's fields.
use Rattle.std.specs.Prelude.{◌≡◌, ◌<◌, [], Option, None, Some, length, take}
use Rattle.model.specs.Lines.{calls, form_at}
use Rattle.model.specs.Parts as model
use Rattle.parting.specs.declared.Parts.{Parts}

pub record Apart (r : Parts) (p : model.Parts) : Type 0 where
  pub known : r.form < calls
  pub form : r.form ≡ p.form
  pub values : take (length (form_at p.form).kinds) r.values ≡ p.values

-- what has no form is nothing
abbrev pub Parted : Option Parts → model.Parts → Type 0
Parted None p = p ≡ record { form = calls; values = [] }
Parted (Some r) p = Apart r p
