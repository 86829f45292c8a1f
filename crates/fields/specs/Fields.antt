-- One field, as the code finds it: where it stands, what it spells and where it ends, and its kind.
use Rattle.std.specs.Prelude.{ℕ, ◌+◌, List, [], ◌∷◌, Option, None, Some, length, drop, ◌==◌, nat_le}
use Rattle.lists.specs.Choice.{choose}
use Rattle.lists.specs.Text.{byte}
use Rattle.model.specs.Lines.{Spelt, is, bad, spelt, packed, FieldKind, number, name, right, hex}
use Rattle.fields.specs.declared.Field.{Field}
use Rattle.fields.specs.declared.Kind.{Kind}
use Rattle.fields.specs.declared.Kind.TheVariants.{Number, Name, Right, Data}

-- what stands before the first tab
unfoldable pub first_field : List ℕ → List ℕ
first_field [] = []
first_field (b ∷ bs) = choose (b == (byte "\t")) [] (b ∷ first_field bs)

-- the field of the line l that starts at s, and where it ends: at a tab, or where the line ends
abbrev pub field_from : List ℕ → ℕ → List ℕ
field_from l s = first_field (drop s l)

abbrev pub end_from : List ℕ → ℕ → ℕ
end_from l s = s + length (field_from l s)

-- what a field spells, with its end
abbrev pub some_field : (value end : ℕ) → Option Field
some_field v e = Some (record { value = v; end = e })

unfoldable pub found : Spelt → (end : ℕ) → Option Field
found (is n) e = some_field n e
found bad e = None

-- A call's name as one number: a 1 and then its bytes, so that the number tells how many there are. No call's name has more
-- than seven.
unfoldable pub word_field : List ℕ → Spelt
word_field f = spelt (nat_le (length f) 7) (packed 1 f)

-- the model's word for a kind
abbrev pub kind_of : Kind → FieldKind
kind_of Number = number
kind_of Name = name
kind_of Right = right
kind_of Data = hex

-- the bytes of a field of a kind that starts at s: data run to the line's end
abbrev pub stretch : FieldKind → List ℕ → ℕ → List ℕ
stretch number l s = field_from l s
stretch name l s = field_from l s
stretch right l s = field_from l s
stretch hex l s = drop s l
