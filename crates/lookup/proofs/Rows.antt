-- What stands in a guest's row is that guest. Assumes nothing.
use Prim.Native.Nat.{ℕ, ◌<◌}
use mathlib.Core.Bool.{Bool, true, false, not}
use mathlib.Core.List.{List}
use mathlib.Core.Path.{◌≡◌, refl, ap, ◌∙◌}
use lib.ListN.{get_or}
use Rattle.lists.specs.Choice.{choose}
use Rattle.std.specs.Prelude.{Option, is_some}
use Rattle.lists.proofs.Choice.{yes!, both_left, both_when}
use Rattle.model.specs.declared.Guest.{Guest}
use Rattle.model.specs.Leaves.{caller_place}
use Rattle.model.specs.Searches.{enrolled}
use Rattle.model.specs.Tables.{no_guest, guest_place}
use Rattle.model.proofs.Rules.{place_yes, place_no}
use Rattle.lookup.specs.Found.{found}
use Rattle.lookup.proofs.Found.{found_some, found_not}
use Rattle.lookup.specs.Rows.{is_guest, row_of, place_by}

-- the row of a guest is its place
pub row_is : (g : ℕ) → is_guest g ≡ true → row_of g ≡ guest_place g
unfolding row_of
row_is g e = yes! _ _ e

pub row_place : (gs : List Guest) (g : ℕ) → place_by (get_or gs (row_of g) no_guest) g ≡ caller_place gs g
unfolding place_by caller_place enrolled
row_place gs g =
    ap (λ b. choose b (guest_place g) 8)
    (both_when (is_guest g) _ _ (λ e. ap (λ k. (get_or gs k no_guest).enrolled) (row_is g e)))

-- for search: what `caller_place` has found
pub place_by_row : (gs : List Guest) (g r k : ℕ) → k ≡ row_of g → r ≡ place_by (get_or gs k no_guest) g → r ≡ caller_place gs g
place_by_row gs g r k e p = p ∙ ap (λ j. place_by (get_or gs j no_guest) g) e ∙ row_place gs g

-- the row of an enrolled guest is its place
pub enrolled_row : (gs : List Guest) (g r : ℕ) → r ≡ caller_place gs g → r < 8 → row_of g ≡ guest_place g
unfolding enrolled
enrolled_row gs g r e l = row_is g (both_left _ _ (place_yes r gs g e l))

-- for search: whether a caller is an enrolled guest, by whether a place was found
module _ (gs : List Guest) (g : ℕ) (o : Option ℕ) (e : o ≡ found 8 (caller_place gs g)) (none : Bool) (is : is_some o ≡ not none) where
  pub caller_known : none ≡ false → enrolled gs g ≡ true
  caller_known n = place_yes (caller_place gs g) gs g refl (found_some 8 _ o e (is ∙ ap not n))

  pub caller_unknown : none ≡ true → enrolled gs g ≡ false
  caller_unknown y = place_no (caller_place gs g) gs g refl (found_not 8 _ o e (is ∙ ap not y))
