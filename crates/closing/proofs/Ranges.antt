-- A loop that changes the places of a list from one place on, and two changes one after the other. Assumes nothing.
use Prim.Native.Nat.{ℕ, ◌+◌, ◌≤◌, ◌<◌}
use mathlib.Core.List.{List, [], ◌∷◌}
use mathlib.Core.Path.{◌≡◌, refl, sym, ap, ◌∙◌}
use native.Mathlib.Decide.{dec_le}
use native.Mathlib.Omega.{arith}
use lib.Dec.{ltb}
use lib.ListN.{length, get_or, set}
use borrow.Author.Tests.{lt-ltb, le-ltb}
use Rattle.lists.specs.Choice.{choose}
use Rattle.lists.specs.Places.{map_from, map_places}
use Rattle.lists.proofs.Choice.{yes!, no!, choose_elim}
use Rattle.lists.proofs.Maps.{map_below, length-map_below, below_more, map_alike, map_nothing}

module _ {A : Type 0} where
  pub map_map : (f g : ℕ → A → A) (l : List A) → map_places f (map_places g l) ≡ map_places (λ k x. f k (g k x)) l
  unfolding map_places map_from
  map_map f g l = go 0 l
    where
      go : (i : ℕ) (m : List A) → map_from f i (map_from g i m) ≡ map_from (λ k x. f k (g k x)) i m
      go i [] = refl
      go i (x ∷ xs) = ap (◌∷◌ (f i (g i x))) (go (i + 1) xs)

  -- the places from i on and below k are changed
  unfoldable pub map_range : (A → A) → (i k : ℕ) → List A → List A
  map_range f i k l = map_below (λ j x. choose (ltb j i) x (f x)) k l

  -- what is made of one place: it lies before the range, in it or after it
  module _ (f : A → A) (i k j : ℕ) (x : A) where
    pub before : j < i → choose (ltb j k) (choose (ltb j i) x (f x)) x ≡ x
    before l = choose_elim (λ y. y ≡ x) (ltb j k) _ x (λ _. yes! _ _ (lt-ltb j i l)) (λ _. refl)

    pub inside : i ≤ j → j < k → choose (ltb j k) (choose (ltb j i) x (f x)) x ≡ f x
    inside l h = yes! _ _ (lt-ltb j k h) ∙ no! _ _ (le-ltb j i l)

    pub beyond : k ≤ j → choose (ltb j k) (choose (ltb j i) x (f x)) x ≡ x
    beyond l = no! _ _ (le-ltb j k l)

  module _ (f : A → A) (i : ℕ) (l : List A) where
    same_length : (k : ℕ) → length (map_range f i k l) ≡ length l
    unfolding map_range
    same_length k = length-map_below _ l k

    none : l ≡ map_range f i i l
    unfolding map_range map_below
    none = sym (map_alike _ (λ k x. x) l (λ k x b. go k x (dec_le i k)) ∙ map_nothing l)
      where
        go : (k : ℕ) (x : A) → Dec (i ≤ k) → choose (ltb k i) (choose (ltb k i) x (f x)) x ≡ x
        go k x (yes h) = beyond f i i k x h
        go k x (no h) = before f i i k x (omega arith)

    more : (t : List A) (k : ℕ) (x d : A) → t ≡ map_range f i k l → x ≡ f (get_or t k d) → i ≤ k → k < length l → set t k x ≡ map_range f i (k + 1) l
    unfolding map_range
    more t k x d e p h b = below_more _ l t k x d b e (p ∙ sym (no! _ _ (le-ltb k i h)))

-- What a loop from place i on has made of the list l when it comes to place k.
pub record Ranged {A : Type 0} (f : A → A) (i k : ℕ) (l t : List A) : Type 0 where
  pub from : i ≤ k
  pub same : t ≡ map_range f i k l

-- before the first turn, one turn, and the length after any
pub range_start : {A : Type 0} (f : A → A) (i : ℕ) (l : List A) → Ranged f i i l l
range_start f i l = record { from = omega arith; same = none f i l }

pub range_go : {A : Type 0} (f : A → A) (i k : ℕ) (l t : List A) (x d : A) → Ranged f i k l t → x ≡ f (get_or t k d) → k < length l → Ranged f i (k + 1) l (set t k x)
range_go f i k l t x d r p b = record { from = omega (arith, r.from); same = more f i l t k x d r.same p r.from b }

pub range_length : {A : Type 0} (f : A → A) (i k n : ℕ) (l t : List A) → Ranged f i k l t → length l ≡ n → length t ≡ n
range_length f i k n l t r len = ap length r.same ∙ same_length f i l k ∙ len
