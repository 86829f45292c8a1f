-- What translation reaches. Assumes nothing.
use Prim.Native.Nat.{ℕ}
use mathlib.Core.Bool.{true, not}
use mathlib.Core.Logic.{◌⊎◌, inl, inr, ⊎_elim}
use mathlib.Core.Path.{◌≡◌, sym, ap}
use native.Mathlib.Omega.{arith}
use lib.Dec.{eqb}
use Rattle.std.specs.Prelude.{Ok, Err}
use borrow.Author.Tests.{eqb-true, eqb-false, not-false}
use Rattle.lists.proofs.Choice.{choose_elim}
use Rattle.model.specs.declared.Right.{Right}
use Rattle.model.specs.declared.Right.TheVariants.{Read}
use Rattle.model.specs.declared.Standing.{Standing}
use Rattle.model.specs.declared.Standing.TheVariants.{Unused, Valid, Revoked}
use Rattle.model.specs.declared.State.{State}
use Rattle.model.specs.Names.{base_name}
use Rattle.model.specs.Searches.{enrolled, primary_slot}
use Rattle.model.specs.Sound.{Live, Sound}
use Rattle.model.specs.Tables.{guest_at}
use Rattle.model.specs.Tokens.{malformed, assigned, entry_number}
use Rattle.model.specs.Translation.{Translation, reaches, through_standing, translate}
use Rattle.model.specs.Through.{ThroughPrimary, ThroughEntry}
use Rattle.model.proofs.Searches.{enrolled_guest, primary_lt, named_found}
use Rattle.model.proofs.Tokens.{formed}

-- the slot and the right of a translation, which two equal ones share
abbrev pub slot_in : Translation → ℕ
slot_in (Ok x) = x.slot
slot_in (Err a) = 0

abbrev pub right_in : Translation → Right
right_in (Ok x) = x.right
right_in (Err a) = Read

through_valid : (x : Standing) (u : ℕ) (r : Right) → through_standing x ≡ reaches u r → x ≡ Valid u r
unfolding through_standing
through_valid Unused u r e = absurd (let z : ◌≡◌ {A = ℕ} 0 1 = cc in omega arith)
through_valid (Valid v q) u r e = let a = ap slot_in e in let b = ap right_in e in cc
through_valid Revoked u r e = absurd (let z : ◌≡◌ {A = ℕ} 0 1 = cc in omega arith)

pub reached : (s : State) (g t u : ℕ) (r : Right) → translate s g t ≡ reaches u r → ThroughPrimary s g t u r ⊎ ThroughEntry s g t u r
unfolding translate
reached s g t u r =
    choose_elim Fine (eqb t 0) _ _ (λ z e. inl (record { token = eqb-true t 0 z; slot = sym (ap slot_in e); right = sym (ap right_in e) })) (λ z.
    choose_elim Fine (malformed t) _ _ (λ _ e. absurd (let o : ◌≡◌ {A = ℕ} 0 1 = cc in omega arith)) (λ f.
    choose_elim Fine (not (assigned s.entries g (guest_at s.guests g).list t)) _ _ (λ _ e. absurd (let o : ◌≡◌ {A = ℕ} 0 1 = cc in omega arith)) (λ a e.
    inr (record { token = eqb-false t 0 z; formed = f; assigned = not-false _ a; valid = through_valid _ u r e }))))
  where
    Fine : Translation → Type 0
    Fine x = x ≡ reaches u r → ThroughPrimary s g t u r ⊎ ThroughEntry s g t u r

-- in a sound state it reaches a live space
pub reached_live : (s : State) → Sound s → (g t u : ℕ) (r : Right) → enrolled s.guests g ≡ true → translate s g t ≡ reaches u r → Live s.spaces u
unfolding primary_slot
reached_live s ok g t u r en e = ⊎_elim primary entry (reached s g t u r e)
  where
    primary : ThroughPrimary s g t u r → Live s.spaces u
    primary p = rw p.slot (named_found s.spaces g base_name (primary_lt s.spaces g (ok.guests.primary g en))).0

    entry : ThroughEntry s g t u r → Live s.spaces u
    entry p = (ok.entries.basis g (entry_number t) u r (enrolled_guest s.guests g en) (formed t p.token p.formed).entry p.valid).live
