-- The defaults of the tables' elements are the model's empty ones: their fields say so. Assumes nothing.
use mathlib.Core.Bool.{false}
use mathlib.Core.Path.{◌≡◌, ap, ap₂}
use Rattle.model.specs.declared.Cell.{Cell}
use Rattle.model.specs.declared.Grant.TheVariants.{Nothing}
use Rattle.model.specs.declared.Permit.{Permit}
use Rattle.model.specs.declared.Space.{Space}
use Rattle.model.specs.Tables.{no_space, no_permit, no_cell}

pub space_default : (x : Space) → (x.id ≡ 0) × ((x.owner ≡ 0) × ((x.name ≡ 0) × ((x.first ≡ 0) × (x.pages ≡ 0)))) → x ≡ no_space
space_default x e = rw (e.0, e.1.0, e.1.1.0, e.1.1.1.0, e.1.1.1.1)

pub permit_default : (p : Permit) → p.grant ≡ Nothing → p ≡ no_permit
permit_default p e = ap (λ g. record { grant = g }) e

pub cell_default : (x : Cell) → (x.key ≡ 0) × (x.mark ≡ false) → x ≡ no_cell
cell_default x e = ap₂ (λ k m. record { key = k; mark = m }) e.0 e.1
