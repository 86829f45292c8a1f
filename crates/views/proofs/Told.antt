-- What the code has found a token and an entry to be. Assumes nothing.
use Prim.Native.Nat.{ℕ, ◌≤◌, ◌<◌}
use mathlib.Core.List.{List}
use mathlib.Core.Logic.{◌⊎◌, ⊎_elim}
use mathlib.Core.Path.{◌≡◌, refl, sym, ap, ◌∙◌}
use native.Mathlib.Omega.{arith}
use lib.Dec.{ltb}
use borrow.Author.Tests.{ltb-false, le-leb, lt-leb, ne_eqb, eq-eqb}
use Rattle.std.specs.Prelude.{Option, Some, None}
use Rattle.std.specs.Option.{unwrap_or}
use Rattle.lists.proofs.Choice.{yes!, no!, choose_elim}
use Rattle.lists.proofs.Places.{lowest_le}
use Rattle.lookup.specs.Found.{found}
use Rattle.model.specs.declared.Space.{Space}
use Rattle.model.specs.Searches.{slot_of, slot_named}
use Rattle.model.specs.declared.Cpu.{Cpu}
use Rattle.model.specs.declared.Standing.{Standing}
use Rattle.model.specs.declared.Standing.TheVariants.{Unused, Revoked}
use Rattle.model.specs.Names.{base_name}
use Rattle.model.specs.Tokens.{token_used}
use Rattle.asks.specs.declared.Sought.{Sought}
use Rattle.asks.specs.declared.Sought.TheVariants.{Id, Named}
use Rattle.asks.specs.declared.Uses.{Uses}
use Rattle.asks.specs.declared.Uses.TheVariants.{Token, Register}
use Rattle.views.specs.Token.{token_by}
use Rattle.views.specs.Search.{slot_sought, slot_in, slot_through}

-- the token
module _ (u : Uses) (c : Cpu) where
  pub token_own : (t : ℕ) → u ≡ Token t → t ≡ token_by u c
  unfolding token_by
  token_own t e = rw e refl

  pub token_none : (r : ℕ) → u ≡ Register r → 15 < r → 0 ≡ token_by u c
  unfolding token_by
  token_none r e h = rw e (sym (no! _ _ (lt-leb r 15 h)))

  pub token_loaded : (r t : ℕ) → u ≡ Register r → r ≤ 15 → t ≡ token_used c r → t ≡ token_by u c
  unfolding token_by
  token_loaded r t e h p = rw e (p ∙ sym (yes! _ _ (le-leb r 15 h)))

-- the slot, through a token
module _ (c t : ℕ) (x : Standing) (ss : List Space) (r : ℕ) where
  pub through_primary : t ≡ 0 → r ≡ slot_named ss c base_name → r ≡ slot_through c t x ss
  unfolding slot_through
  through_primary e p = p ∙ sym (yes! _ _ (eq-eqb t 0 e))

  pub through_entry : (y : Standing) → (t ≡ 0 → ⊥) → x ≡ y → r ≡ slot_in y → r ≡ slot_through c t x ss
  unfolding slot_through
  through_entry y e q p = p ∙ ap slot_in (sym q) ∙ sym (no! _ _ (ne_eqb t 0 e))

  pub through_none : (t ≡ 0 → ⊥) → (x ≡ Unused) ⊎ (x ≡ Revoked) → r ≡ 32 → r ≡ slot_through c t x ss
  unfolding slot_in
  through_none e q p = ⊎_elim (λ h. through_entry Unused e h p) (λ h. through_entry Revoked e h p) q

-- a search of the table, and the number that it comes to
slot_told : (o : Option ℕ) (k : ℕ) → k ≤ 32 → o ≡ found 32 k → unwrap_or o 32 ≡ k
unfolding found
slot_told o k h e = rw e (choose_elim (λ w. unwrap_or w 32 ≡ k) (ltb k 32) _ _ (λ _. refl) (λ f. let m = ltb-false k 32 f in omega arith))

sought_high : (ss : List Space) (x : Option Sought) → slot_sought x ss ≤ 32
unfolding slot_sought slot_of slot_named
sought_high ss None = omega arith
sought_high ss (Some (Id i)) = lowest_le _ 32
sought_high ss (Some (Named g n)) = lowest_le _ 32

-- for search
module _ (ss : List Space) (x : Option Sought) where
  pub sought_some : (y : Sought) (o : Option ℕ) (r : ℕ) → x ≡ Some y → o ≡ found 32 (slot_sought (Some y) ss) → r ≡ unwrap_or o 32 → r ≡ slot_sought x ss
  sought_some y o r e f is = rw e (is ∙ slot_told o _ (sought_high ss (Some y)) f)

  pub sought_none : x ≡ None → 32 ≡ slot_sought x ss
  unfolding slot_sought
  sought_none e = rw e refl

pub sought_fits : (ss : List Space) (y : Sought) (o : Option ℕ) (r : ℕ) → o ≡ found 32 (slot_sought (Some y) ss) → r ≡ unwrap_or o 32 → r < 256
sought_fits ss y o r f is = omega (arith, is ∙ slot_told o _ (sought_high ss (Some y)) f, sought_high ss (Some y))
