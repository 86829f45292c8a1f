-- What the place of an access says, and what refuses one: the bytes of an access that passes lie in scratch. Assumes nothing.
use Prim.Native.Nat.{ℕ, ◌+◌, ◌-◌, ◌*◌, ◌≤◌}
use mathlib.Core.Bool.{Bool, true, false}
use mathlib.Core.List.{List}
use mathlib.Core.Path.{◌≡◌, refl}
use Rattle.std.specs.Prelude.{Ok, Err}
use native.Mathlib.Omega.{arith}
use lib.ListN.{length, take, drop, length-take, length-drop}
use borrow.Author.Tests.{leb-true}
use Rattle.lists.specs.Choice.{choose, implies}
use Rattle.lists.proofs.Choice.{choose_eq}
use Rattle.model.specs.declared.Answer.{Answer}
use Rattle.model.specs.declared.Answer.TheVariants.{Addressing, Protection, KeyProtection}
use Rattle.model.specs.declared.Right.{Right}
use Rattle.model.specs.declared.Space.{Space}
use Rattle.model.specs.Calls.{writes}
use Rattle.keys.specs.declared.Guard.{Guard}
use Rattle.keys.specs.Guards.{guard_allows}
use Rattle.transfer.specs.Transferred.{RunIn, inside, place_in, placed}

pub ends : (x : Space) (a n : ℕ) (m : List ℕ) → RunIn x m → inside x a n ≡ true → place_in x a + n ≤ length m
ends x a n m run t = omega (arith, leb-true (a + n) (x.pages * 4096) t)

-- what is read off the three checks: `p` where all pass, `e` of the answer that refuses
abbrev pub read : {A : Type 0} → (inside right key : Bool) → A → (Answer → A) → A
read i r k p e = choose i (choose r (choose k p (e KeyProtection)) (e Protection)) (e Addressing)

-- a place is given only where all pass, and an answer only where that one refuses
read_place : (i r k : Bool) (q p : ℕ) → Ok p ≡ read i r k (Ok q) Err → (i ≡ true) × (p ≡ q)
unfolding choose
read_place true true true q p t = (refl, (cc))
read_place true true false q p t = absurd (cc)
read_place true false k q p t = absurd (cc)
read_place false r k q p t = absurd (cc)

read_passed : {A : Type 0} (i r k : Bool) (q p : ℕ) (y : A) (e : Answer → A) → Ok p ≡ read i r k (Ok q) Err → y ≡ read i r k y e
unfolding choose
read_passed true true true q p y e t = refl
read_passed true true false q p y e t = absurd (cc)
read_passed true false k q p y e t = absurd (cc)
read_passed false r k q p y e t = absurd (cc)

read_refused : {A : Type 0} (i r k : Bool) (q : ℕ) (z : Answer) (y : A) (e : Answer → A) → Err z ≡ read i r k (Ok q) Err → e z ≡ read i r k y e
unfolding choose
read_refused true true true q z y e t = absurd (cc)
read_refused true true false q z y e t = cc
read_refused true false k q z y e t = cc
read_refused false r k q z y e t = cc

-- two readings, equal where they are taken
pub read_eq : {A : Type 0} (i r k l : Bool) (p q : A) (e f : Answer → A) → (i ≡ true → k ≡ l) → (i ≡ true → p ≡ q) → ((z : Answer) → e z ≡ f z) → read i r k p e ≡ read i r l q f
read_eq i r k l p q e f keyed put stop =
    choose_eq i
    (λ t. choose_eq r (λ _. rw (keyed t) (choose_eq l (λ _. put t) (λ _. stop KeyProtection))) (λ _. stop Protection))
    (λ _. stop Addressing)

module _ (x : Space) (r : Right) (g : Guard) (w : Bool) (a n : ℕ) where
  abbrev pub checked : {A : Type 0} → A → (Answer → A) → A
  checked = read (inside x a n) (implies w (writes r)) (guard_allows g w a n)

  pub refused : {A : Type 0} (z : Answer) → Err z ≡ placed x r g w a n → (y : A) (e : Answer → A) → e z ≡ checked y e
  unfolding placed
  refused z t y e = read_refused _ _ _ _ z y e t

  module _ (p : ℕ) (t : Ok p ≡ placed x r g w a n) where
    pub passed : {A : Type 0} (y : A) (e : Answer → A) → y ≡ checked y e
    unfolding placed
    passed y e = read_passed _ _ _ _ p y e t

    pub place_is : p ≡ place_in x a
    unfolding placed
    place_is = (read_place _ _ _ _ p t).1

    -- what is asked where the part from that place on is lent
    module _ (m : List ℕ) (run : RunIn x m) where
      fits : p + n ≤ length m
      unfolding placed
      fits = omega (arith, ends x a n m run (read_place _ _ _ _ p t).0, place_is)

      pub starts_inside : p ≤ length m
      starts_inside = omega (arith, fits)

      pub lent_long : n ≤ length (take (length m - p) (drop p m))
      lent_long = simp (length-take, length-drop) (omega (arith, fits))

pub ruleset lending = (starts_inside, lent_long)
