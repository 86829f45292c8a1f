-- Laws of the choices by a Boolean. Assumes nothing.
use mathlib.Core.Bool.{Bool, true, false, not, true≢false}
use mathlib.Core.Logic.{◌⊎◌, inl, inr}
use mathlib.Core.Path.{◌≡◌, refl, sym, ap, ◌∙◌}
use Rattle.lists.specs.Choice.{choose, both, either, implies}

-- a Boolean is not both
pub true_false {ℓ} : {A : Type ℓ} {b : Bool} → b ≡ true → b ≡ false → A
true_false p q = absurd (true≢false (sym p ∙ q))

pub not_so : (b : Bool) → (b ≡ true → ⊥) → b ≡ false
not_so true n = absurd (n refl)
not_so false n = refl

pub true_or_false : (b : Bool) → (b ≡ true) ⊎ (b ≡ false)
true_or_false true = inl refl
true_or_false false = inr refl

pub not_to : (b : Bool) → not b ≡ true → b ≡ false
not_to true e = sym e
not_to false e = refl

pub not_of : (b : Bool) → b ≡ false → not b ≡ true
not_of b e = ap not e

-- choose
pub yes! : {A : Type 0} {t : Bool} (a b : A) → t ≡ true → choose t a b ≡ a
unfolding choose
yes! a b e = rw e

pub no! : {A : Type 0} {t : Bool} (a b : A) → t ≡ false → choose t a b ≡ b
unfolding choose
no! a b e = rw e

pub choose_elim {ℓ} : {A : Type 0} (P : A → Type ℓ) (t : Bool) (a b : A) → (t ≡ true → P a) → (t ≡ false → P b) → P (choose t a b)
unfolding choose
choose_elim P true a b f g = f refl
choose_elim P false a b f g = g refl

-- two choices by one test, equal where they are taken
pub choose_eq : {A : Type 0} (t : Bool) {a b x y : A} → (t ≡ true → a ≡ x) → (t ≡ false → b ≡ y) → choose t a b ≡ choose t x y
unfolding choose
choose_eq true f g = f refl
choose_eq false f g = g refl

pub choose_same : {A : Type 0} (t : Bool) (a : A) → choose t a a ≡ a
unfolding choose
choose_same true a = refl
choose_same false a = refl

-- both
pub both_left : (a b : Bool) → both a b ≡ true → a ≡ true
unfolding both
both_left true b h = refl
both_left false b h = h

pub both_right : (a b : Bool) → both a b ≡ true → b ≡ true
unfolding both
both_right true b h = h
both_right false true h = refl
both_right false false h = h

pub both_intro : (a b : Bool) → a ≡ true → b ≡ true → both a b ≡ true
unfolding both
both_intro true b p q = q
both_intro false b p q = p

pub both_yes : {a : Bool} (b : Bool) → a ≡ true → both a b ≡ b
unfolding both
both_yes b e = rw e

pub both_no : {a : Bool} (b : Bool) → a ≡ false → both a b ≡ false
unfolding both
both_no b e = rw e

pub both_not : (a b : Bool) → b ≡ false → both a b ≡ false
unfolding both
both_not true b e = e
both_not false b e = refl

-- the second is asked only where the first holds
pub both_when : (a b c : Bool) → (a ≡ true → b ≡ c) → both a b ≡ both a c
unfolding both
both_when true b c f = f refl
both_when false b c f = refl

pub both_true : (b : Bool) → both b true ≡ b
unfolding both
both_true true = refl
both_true false = refl

pub both_same : (b : Bool) → both b b ≡ b
unfolding both
both_same true = refl
both_same false = refl

pub both_comm : (a b : Bool) → both a b ≡ both b a
unfolding both
both_comm true true = refl
both_comm true false = refl
both_comm false true = refl
both_comm false false = refl

-- either
pub either_to : (a b : Bool) → either a b ≡ true → (a ≡ true) ⊎ (b ≡ true)
unfolding either
either_to true b e = inl refl
either_to false b e = inr e

pub either_left : (a b : Bool) → a ≡ true → either a b ≡ true
unfolding either
either_left true b e = refl
either_left false b e = true_false refl (sym e)

pub either_right : (a b : Bool) → b ≡ true → either a b ≡ true
unfolding either
either_right true b e = refl
either_right false b e = e

pub either_no : {a : Bool} (b : Bool) → a ≡ false → either a b ≡ b
unfolding either
either_no b e = rw e

pub either_none : (a b : Bool) → a ≡ false → b ≡ false → either a b ≡ false
unfolding either
either_none true b p q = p
either_none false b p q = q

pub either_not_left : (a b : Bool) → either a b ≡ false → a ≡ false
unfolding either
either_not_left true b e = e
either_not_left false b e = refl

pub either_not_right : (a b : Bool) → either a b ≡ false → b ≡ false
unfolding either
either_not_right true true e = e
either_not_right true false e = refl
either_not_right false b e = e

-- implies
pub implies_to : (a b : Bool) → implies a b ≡ true → a ≡ true → b ≡ true
unfolding implies
implies_to true b e p = e
implies_to false b e p = true_false p refl

pub implies_of : (a b : Bool) → (a ≡ true → b ≡ true) → implies a b ≡ true
unfolding implies
implies_of true b f = f refl
implies_of false b f = refl

pub implies_not : (a b : Bool) → implies a b ≡ false → a ≡ true
unfolding implies
implies_not true b e = refl
implies_not false b e = sym e
