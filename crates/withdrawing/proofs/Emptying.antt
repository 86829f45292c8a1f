-- A loop over a table that empties the elements of which a test holds: one turn of it. Assumes nothing.
use Prim.Native.Nat.{ℕ, ◌+◌, ◌<◌}
use mathlib.Core.Bool.{Bool, true, false}
use mathlib.Core.List.{List}
use mathlib.Core.Path.{◌≡◌, sym, ◌∙◌}
use lib.ListN.{length, get_or, set}
use Rattle.lists.specs.Choice.{choose}
use Rattle.lists.proofs.Choice.{yes!, no! }
use Rattle.lists.proofs.Maps.{map_below}
use Rattle.lists.proofs.Rules.{map_go}

module _ {A : Type 0} (test : ℕ → A → Bool) (none : A) (l t : List A) (i : ℕ) where
  abbrev pub emptied : (place : ℕ) → A → A
  emptied k x = choose (test k x) none x

  module _ (is : t ≡ map_below emptied i l) (b : i < length l) where
    pub emptied_yes : (x : A) → x ≡ none → test i (get_or t i none) ≡ true → set t i x ≡ map_below emptied (i + 1) l
    emptied_yes x e y = map_go emptied l t i x none is (e ∙ sym (yes! _ _ y)) b

    pub emptied_no : test i (get_or t i none) ≡ false → set t i (get_or t i none) ≡ map_below emptied (i + 1) l
    emptied_no n = map_go emptied l t i (get_or t i none) none is (sym (no! _ _ n)) b
