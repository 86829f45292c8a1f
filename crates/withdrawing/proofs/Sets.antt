-- The set of a guest's slots, as the table that the code makes. Assumes nothing.
use Prim.Native.Nat.{ℕ, ◌+◌, ◌≤◌, ◌<◌}
use mathlib.Core.Bool.{Bool, false}
use mathlib.Core.List.{List}
use mathlib.Core.Path.{◌≡◌, refl, sym, ap, ◌∙◌}
use native.Mathlib.Decide.{dec_le}
use native.Mathlib.Omega.{arith}
use lib.ListN.{length, set, replicate, get_or-replicate, get_or-eq_default}
use Rattle.lists.proofs.Choice.{both_no}
use Rattle.lists.proofs.Maps.{map_below, below_done, below_left}
use Rattle.lists.proofs.Rules.{map_start, map_go}
use Rattle.model.specs.declared.Space.{Space}
use Rattle.model.specs.Leaves.{flag}
use Rattle.model.specs.Searches.{is_owned}
use Rattle.model.specs.Tables.{no_space, space_at}
use Rattle.frames.specs.Runs.{slots_of}
use Rattle.withdrawing.specs.Sets.{IsSet}

-- no slot
pub none_set : IsSet (λ v. false) (replicate 33 false)
none_set = record { holds = λ v. go v (dec_le 33 v); last = refl }
  where
    go : (v : ℕ) → Dec (33 ≤ v) → flag (replicate 33 false) v ≡ false
    go v (yes h) = get_or-eq_default (replicate 33 false) false {n = v} h
    go v (no h) = get_or-replicate 33 v false false (omega arith)

-- The slots below i of which p holds: what a loop over all slots has found so far, one turn of it, and its end.
unfoldable pub slots_below : (ℕ → Bool) → ℕ → List Bool
slots_below p i = map_below (λ u b. p u) i (replicate 33 false)

module _ (p : ℕ → Bool) where
  pub slots_start : replicate 33 false ≡ slots_below p 0
  unfolding slots_below
  slots_start = map_start _ (replicate 33 false)

  pub slots_go : (t : List Bool) (i : ℕ) (x : Bool) → t ≡ slots_below p i → x ≡ p i → i < 32 → set t i x ≡ slots_below p (i + 1)
  unfolding slots_below
  slots_go t i x e y h = map_go _ (replicate 33 false) t i x false e y (omega arith)

  slots_done : (t : List Bool) (i : ℕ) → t ≡ slots_below p i → i ≤ 32 → 32 ≤ i → ((v : ℕ) → 32 ≤ v → p v ≡ false) → IsSet p t
  unfolding slots_below
  slots_done t i e l m none = rw e (record { holds = λ v. go v (dec_le 32 v); last = go 32 (dec_le 32 32) ∙ none 32 (omega arith) })
    where
      go : (v : ℕ) → Dec (32 ≤ v) → flag (slots_below p i) v ≡ p v
      go v (yes h) = below_left _ (replicate 33 false) i v false (omega arith) ∙ none_set.holds v ∙ sym (none v h)
      go v (no h) = below_done _ (replicate 33 false) i v false (omega arith) (omega arith)

-- A slot that no table has holds no space.
module _ (f : Space → Bool) (ss : List Space) where
  pub slot_is : (x : Bool) (u : ℕ) → x ≡ f (space_at ss u) → x ≡ slots_of f ss u
  unfolding slots_of
  slot_is x u e = e

  pub slots_set : (t : List Bool) (i : ℕ) → t ≡ slots_below (slots_of f ss) i → i ≤ 32 → 32 ≤ i → length ss ≡ 32 → f no_space ≡ false → IsSet (slots_of f ss) t
  unfolding slots_of
  slots_set t i e l m len none = slots_done _ t i e l m (λ v h. ap f (get_or-eq_default ss no_space {n = v} (omega arith)) ∙ none)

-- no guest's
pub none_owned : (g : ℕ) → is_owned g no_space ≡ false
none_owned g = both_no _ refl

pub ruleset slots = (slots_start, slots_go, slot_is, slots_set, none_owned)
