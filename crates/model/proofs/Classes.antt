-- Where code takes a call apart, it is told by its place in the enum: the class of the call at each place. Assumes nothing.
use Prim.Native.Nat.{ℕ}
use mathlib.Core.Bool.{true, false}
use mathlib.Core.List.{List, [], ◌∷◌, map}
use mathlib.Core.Logic.{inl, inr}
use mathlib.Core.Path.{◌≡◌, refl, ap, ◌∙◌}
use native.Mathlib.Omega.{arith}
use lib.ListN.{get_or, drop}
use denote.Enum.Declared.{tag_of}
use types.Run.{OneOf}
use Rattle.model.specs.declared.Operation.{Operation}
use Rattle.model.specs.declared.Operation.TheVariants.{Enrol, Create, Destroy, Permit, Isolate, Query, Add, Remove, Load, Mode, Fetch, Store, Reset, Key, Block}
use Rattle.model.specs.Classes.{Moves, no_bytes, from_space, to_space, Shows, no_value, its_value, its_bytes, Class, class, class_of}
use Rattle.model.specs.contracts.Operation as operation

abbrev pub place : Operation → ℕ
place o = tag_of operation.the_type o

-- what a call moves, without its arguments
abbrev plain : Moves → Moves
plain no_bytes = no_bytes
plain (from_space r a) = from_space 0 0
plain (to_space r a) = to_space 0 0

plain_none : (v : Moves) → plain v ≡ no_bytes → v ≡ no_bytes
plain_none no_bytes e = refl
plain_none (from_space r a) e = absurd (let z : ◌≡◌ {A = ℕ} 0 1 = cc in omega arith)
plain_none (to_space r a) e = absurd (let z : ◌≡◌ {A = ℕ} 0 1 = cc in omega arith)

-- the classes in the order of the enum
abbrev unseen : Class
unseen = class false no_bytes no_value

abbrev valued : Class
valued = class false no_bytes its_value

abbrev pub class_at : ℕ → Class
class_at t =
    get_or
    (class true no_bytes its_value ∷ valued ∷ unseen ∷ unseen ∷ unseen ∷ valued ∷ valued ∷ unseen ∷ unseen ∷ unseen
    ∷ class false (from_space 0 0) its_bytes ∷ class false (to_space 0 0) no_value ∷ unseen ∷ unseen ∷ unseen ∷ [])
    t unseen

class_at_lem : (o : Operation) → class (class_of o).enrols (plain (class_of o).moves) (class_of o).shows ≡ class_at (place o)
class_at_lem (Enrol x) = refl
class_at_lem (Create name pages) = refl
class_at_lem (Destroy id) = refl
class_at_lem (Permit id guest right) = refl
class_at_lem (Isolate id) = refl
class_at_lem (Query owner name) = refl
class_at_lem (Add id right) = refl
class_at_lem (Remove token) = refl
class_at_lem (Load register value) = refl
class_at_lem (Mode mode) = refl
class_at_lem (Fetch register address) = refl
class_at_lem (Store register address) = refl
class_at_lem Reset = refl
class_at_lem (Key key) = refl
class_at_lem (Block id address key mark) = refl

-- f is a at all of these places
abbrev pub AllAt : {A : Type 0} → (ℕ → A) → A → List ℕ → Type 0
AllAt f a ks = map f ks ≡ map (λ _. a) ks

at_one_of : {A : Type 0} (f : ℕ → A) (a : A) (ks : List ℕ) → AllAt f a ks → (x : ℕ) → OneOf ks x → f x ≡ a
at_one_of f a [] h x p = absurd p
at_one_of {A} f a (k ∷ []) h x p = ap f p ∙ ap (λ (l : List A). get_or l 0 a) h
at_one_of {A} f a (k ∷ l ∷ ks) h x (inl p) = ap f p ∙ ap (λ (l : List A). get_or l 0 a) h
at_one_of {A} f a (k ∷ l ∷ ks) h x (inr p) = at_one_of f a (l ∷ ks) (ap (λ (l : List A). drop 1 l) h) x p

-- a call at one of these places: what it shows, that it moves nothing
module _ (ks : List ℕ) (o : Operation) (p : OneOf ks (place o)) where
  pub shows_at : (v : Shows) → AllAt (λ t. (class_at t).shows) v ks → (class_of o).shows ≡ v
  shows_at v h = ap (λ (c : Class). c.shows) (class_at_lem o) ∙ at_one_of (λ t. (class_at t).shows) v ks h (place o) p

  pub unmoving_at : AllAt (λ t. (class_at t).moves) no_bytes ks → (class_of o).moves ≡ no_bytes
  unmoving_at h = plain_none _ (ap (λ (c : Class). c.moves) (class_at_lem o) ∙ at_one_of (λ t. (class_at t).moves) no_bytes ks h (place o) p)
