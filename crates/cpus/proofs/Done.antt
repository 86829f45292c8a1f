-- What LOAD, MODE and KEY decide on what they have seen is what the model says. Assumes nothing.
use Prim.Native.Nat.{ℕ, ◌≤◌, ◌<◌}
use mathlib.Core.Bool.{Bool, true, not}
use mathlib.Core.Path.{◌≡◌, refl, sym, ap, ap₂, ◌∙◌}
use native.Mathlib.Omega.{arith}
use lib.Dec.{eqb}
use borrow.Author.Tests.{le-leb, lt-leb}
use Rattle.std.specs.Prelude.{Ok, Err}
use Rattle.lists.specs.Choice.{implies}
use Rattle.lists.proofs.Choice.{not_to}
use Rattle.lists.proofs.Rules.{if_stop}
use Rattle.model.specs.declared.Answer.{Answer}
use Rattle.model.specs.declared.Answer.TheVariants.{Limit, SpecialOperation}
use Rattle.model.specs.declared.Caller.{Caller}
use Rattle.model.specs.declared.Change.TheVariants.{SetRegister, SetMode, SetKey}
use Rattle.model.specs.declared.Guest.{Guest}
use Rattle.model.specs.declared.Kind.TheVariants.{Register as RegisterKind, Flag, Key as KeyKind}
use Rattle.model.specs.declared.Operation.TheVariants.{Load, Mode, Key}
use Rattle.model.specs.declared.State.{State}
use Rattle.model.specs.Arguments.{arguments, check_all}
use Rattle.model.specs.Calls.{enrols, perform, load, mode, set_key}
use Rattle.model.specs.Decision.{refuse}
use Rattle.model.specs.Tables.{guest_at}
use Rattle.model.proofs.Rules.{check_yes, check_no}
use Rattle.edits.specs.declared.Edit.TheVariants.{Register, Mode as ModeEdit, Key as KeyEdit}
use Rattle.edits.specs.declared.Granted.{Granted}
use Rattle.edits.specs.Edits.{change_of, edited, Fits, Decided}
use Rattle.edits.proofs.Kept.{decided_refused, decided_done}
use Rattle.views.specs.declared.View.{View}
use Rattle.asks.specs.Asks.{asks_by}
use Rattle.views.specs.Views.{view_of}
use Rattle.views.proofs.Judged.{judged_good, place_own, seen_guest}

module _ (v : View) (r n : ℕ) (l : v.place < 8) where
  pub load_limit : (a : Answer) → a ≡ Limit RegisterKind 2 → 16 ≤ r → Decided v (Load r n) (edited (Err a))
  unfolding enrols arguments check_all perform
  load_limit a is h = decided_refused v (Load r n) a (λ s c ok e. judged_good s c (Load r n) 0 v refl e l ∙ check_no _ _ (lt-leb r 15 h) ∙ ap refuse (sym is))

  pub load_done : (k j : ℕ) (x : Granted) → k ≡ v.place → j ≡ r → r < 16 → x ≡ record { value = 0; edit = Register k j n } → Decided v (Load r n) (edited (Ok x))
  unfolding enrols arguments check_all perform load change_of Fits
  load_done k j x is at h p =
      decided_done v (Load r n) x _ p (omega (arith, is, l), omega (arith, at, h))
      (λ s c ok e. rw (judged_good s c (Load r n) 0 v refl e l ∙ check_yes _ _ (le-leb r 15 (omega arith)))
      (record { answer = refl; change = ap₂ (λ i g. SetRegister i g n) (is ∙ place_own s c.guest (Load r n) v e l) at }))

module _ (v : View) (m : ℕ) (l : v.place < 8) where
  pub mode_limit : (a : Answer) → a ≡ Limit Flag 2 → 2 ≤ m → Decided v (Mode m) (edited (Err a))
  unfolding enrols arguments check_all perform
  mode_limit a is h = decided_refused v (Mode m) a (λ s c ok e. judged_good s c (Mode m) 0 v refl e l ∙ check_no _ _ (lt-leb m 1 h) ∙ ap refuse (sym is))

  module _ (b : Bool) (is : b ≡ eqb m 1) (h : m < 2) where
    -- the control is the caller's
    asked : (s : State) (c : Caller) → v ≡ view_of s (asks_by c.guest (Mode m)) → implies (eqb m 1) (guest_at s.guests c.guest).asf ≡ implies b v.guest.asf
    asked s c e = ap₂ (λ x (g : Guest). implies x g.asf) (sym is) (sym (seen_guest s c.guest (Mode m) v e l))

    pub mode_refused : b ≡ true → not v.guest.asf ≡ true → Decided v (Mode m) (edited (Err SpecialOperation))
    unfolding enrols arguments check_all perform mode
    mode_refused t n =
        decided_refused v (Mode m) SpecialOperation
        (λ s c ok e. judged_good s c (Mode m) 0 v refl e l ∙ check_yes _ _ (le-leb m 1 (omega arith)) ∙ check_no _ _ (asked s c e ∙ if_stop _ _ t (not_to v.guest.asf n)))

    pub mode_done : (k : ℕ) (x : Granted) → k ≡ v.place → x ≡ record { value = 0; edit = ModeEdit k b } → implies b v.guest.asf ≡ true → Decided v (Mode m) (edited (Ok x))
    unfolding enrols arguments check_all perform mode change_of Fits
    mode_done k x at p t =
        decided_done v (Mode m) x _ p (omega (arith, at, l))
        (λ s c ok e. rw (judged_good s c (Mode m) 0 v refl e l ∙ check_yes _ _ (le-leb m 1 (omega arith)) ∙ check_yes _ _ (asked s c e ∙ t))
        (record { answer = refl; change = ap₂ SetMode (at ∙ place_own s c.guest (Mode m) v e l) is }))

module _ (v : View) (k : ℕ) (l : v.place < 8) where
  pub key_limit : (a : Answer) → a ≡ Limit KeyKind 2 → 16 ≤ k → Decided v (Key k) (edited (Err a))
  unfolding enrols arguments check_all perform
  key_limit a is h = decided_refused v (Key k) a (λ s c ok e. judged_good s c (Key k) 0 v refl e l ∙ check_no _ _ (lt-leb k 15 h) ∙ ap refuse (sym is))

  pub key_done : (i j : ℕ) (x : Granted) → i ≡ v.place → j ≡ k → k < 16 → x ≡ record { value = 0; edit = KeyEdit i j } → Decided v (Key k) (edited (Ok x))
  unfolding enrols arguments check_all perform set_key change_of Fits
  key_done i j x is at h p =
      decided_done v (Key k) x _ p (omega (arith, is, l))
      (λ s c ok e. rw (judged_good s c (Key k) 0 v refl e l ∙ check_yes _ _ (le-leb k 15 (omega arith)))
      (record { answer = refl; change = ap₂ SetKey (is ∙ place_own s c.guest (Key k) v e l) at }))
