-- What a field of data that is taken has. Assumes nothing.
use Prim.Native.Nat.{ℕ, ◌+◌, ◌*◌, ◌≤◌}
use mathlib.Core.Bool.{true}
use mathlib.Core.List.{List}
use mathlib.Core.Path.{◌≡◌, sym, ap, ◌∙◌}
use native.Mathlib.Omega.{arith}
use lib.ListN.{length, take}
use lib.Seq.{length-take-le}
use borrow.Author.Tests.{leb-true}
use Rattle.lists.proofs.Choice.{both_left, both_right}
use Rattle.model.specs.Lines.{hex}
use Rattle.fields.specs.declared.Kind.{Kind}
use Rattle.fields.specs.declared.Kind.TheVariants.{Data}
use Rattle.fields.specs.Fields.{kind_of}
use Rattle.forms.specs.Sizes.{most_of}
use Rattle.model.specs.Written.{takes_field}

-- data that are taken
module _ (k : Kind) (v : ℕ) (d : List ℕ) (e : k ≡ Data) (t : takes_field (kind_of k) v d ≡ true) where
  taken : takes_field hex v d ≡ true
  taken = ap (λ x. takes_field (kind_of x) v d) (sym e) ∙ t

  data_few : v ≤ 257
  unfolding takes_field
  data_few = leb-true v 257 (both_left _ _ taken)

  pub data_lent : v ≡ length (take v d)
  unfolding takes_field
  data_lent = sym (length-take-le v d (leb-true v (length d) (both_right _ _ taken)))

  pub room_data : (a o : ℕ) → a + most_of (kind_of k) ≤ o → a + 2 * length (take v d) ≤ o
  unfolding most_of
  room_data a o room = omega (arith, ap (λ x. most_of (kind_of x)) e, data_few, data_lent)
