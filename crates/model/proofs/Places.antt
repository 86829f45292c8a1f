-- An argument's place is the number of its field. Assumes nothing.
use Prim.Native.Nat.{ℕ, min}
use mathlib.Core.Bool.{Bool}
use mathlib.Core.List.{List}
use mathlib.Core.Path.{◌≡◌, refl, ap, ap₂}
use lib.Dec.{leb}
use Rattle.lists.specs.Choice.{both}
use Rattle.model.specs.declared.Guest.{Guest}
use Rattle.model.specs.Arguments.{arguments, good_pages, good_flag, good_key, good_register, good_length, good_other}
use Rattle.model.specs.Lines.{at, forms}
use Rattle.model.specs.Names.{good_name}
use Rattle.model.specs.Places.{none, next, end, and, PlacesAreFields}

-- where field n has one value in both lines, so has any test of it
module _ (v w : List ℕ) where
  same : (test : ℕ → Bool) (n : ℕ) → at v n ≡ at w n → test (at v n) ≡ test (at w n)
  same test n q = ap test q

  -- PERMIT's h is held against the caller too
  same_other : (gs : List Guest) → at v 0 ≡ at w 0 → at v 2 ≡ at w 2 → good_other gs (record { guest = at v 0 }) (at v 2) ≡ good_other gs (record { guest = at w 0 }) (at w 2)
  same_other gs e q = ap₂ (λ c h. good_other gs (record { guest = c }) h) e q

-- form by form: FRAMES, ENROL, CREATE, DESTROY, PERMIT, ISOLATE, QUERY, ADD, REMOVE, LOAD, MODE, FETCH, STORE, RESET, KEY, BLOCK
pub places_are_fields : PlacesAreFields
unfolding forms arguments
places_are_fields gs v w e =
    and none
    (and (next refl refl (same v w good_pages 1)
    (next refl refl (same v w (λ x. leb x 31) 2)
    (next refl refl (same v w good_flag 3)
    (next refl refl (same v w (λ x. both (leb 1 x) (leb x 30)) 4)
    (next refl refl (same v w good_flag 5) none)))))
    (and (next refl refl (same v w good_name 1) (next refl refl (same v w good_pages 2) none))
    (and none
    (and (next refl refl (same_other v w gs e) none)
    (and none
    (and (next refl refl (same v w (λ x. both (leb 1 x) (leb x 8)) 1) (next refl refl (same v w good_name 2) none))
    (and none
    (and none
    (and (next refl refl (same v w good_register 1) none)
    (and (next refl refl (same v w good_flag 1) none)
    (and (next refl refl (same v w good_register 1) (next refl refl (same v w (λ x. good_length (min x 257)) 3) none))
    (and (next refl refl (same v w good_register 1) (next refl refl (same v w (λ x. good_length (min x 257)) 3) none))
    (and none
    (and (next refl refl (same v w good_key 1) none)
    (and (next refl refl (same v w good_key 3) (next refl refl (same v w good_flag 4) none))
    end)))))))))))))))
