-- An entry is revoked, as the model says, by a test of the slot that it names. Assumes nothing.
use Prim.Native.Nat.{ℕ, ◌<◌}
use mathlib.Core.Bool.{Bool, true, false}
use mathlib.Core.Path.{◌≡◌, refl, ◌∙◌}
use native.Mathlib.Omega.{arith}
use lib.Dec.{eqb}
use borrow.Author.Tests.{ne_eqb}
use Rattle.lists.specs.Choice.{choose}
use Rattle.lists.proofs.Choice.{no!, choose_same}
use Rattle.model.specs.declared.Entry.{Entry}
use Rattle.model.specs.declared.Standing.{Standing}
use Rattle.model.specs.declared.Standing.TheVariants.{Unused, Valid, Revoked}
use Rattle.model.specs.Changes.{revoked_from, revoked}
use Rattle.losses.specs.Looks.{named_slot, revoked_entry}

abbrev entry : Standing → (sequence : ℕ) → Entry
entry x q = record { standing = x; sequence = q }

choose_entry : (b : Bool) (x y : Standing) (q : ℕ) → choose b (entry x q) (entry y q) ≡ entry (choose b x y) q
unfolding choose
choose_entry true x y q = refl
choose_entry false x y q = refl

-- the test does not hold of 32, which is no slot
pub revoked_named : (t : ℕ → Bool) (e : Entry) → t 32 ≡ false → choose (t (named_slot e.standing)) (revoked_entry e) e ≡ revoked t e
unfolding revoked revoked_from named_slot
revoked_named t e none = by e.standing e.sequence
  where
    by : (x : Standing) (q : ℕ) → choose (t (named_slot x)) (entry Revoked q) (entry x q) ≡ entry (revoked_from t x) q
    by Unused q = no! _ _ none
    by (Valid u r) q = choose_entry (t u) Revoked (Valid u r) q
    by Revoked q = choose_same _ _

-- For search: what `entry_without` has made of an entry.
pub without_slot : (u n : ℕ) (e r : Entry) → u < 32 → n ≡ named_slot e.standing → r ≡ choose (eqb u n) (revoked_entry e) e → r ≡ revoked (eqb u) e
without_slot u n e r h p q = q ∙ rw p (revoked_named (eqb u) e (ne_eqb u 32 (λ z. omega arith)))
