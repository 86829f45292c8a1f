-- Laws of lists changed place by place. Assumes nothing.
use Prim.Native.Nat.{ℕ, zero, suc, ◌+◌, ◌≤◌, ◌<◌}
use mathlib.Core.List.{List, [], ◌∷◌}
use mathlib.Core.Logic.{◌≢◌}
use mathlib.Core.Path.{◌≡◌, refl, sym, ap, ap₂, ◌∙◌}
use native.Mathlib.Decide.{ℕ_discrete, dec_le}
use native.Mathlib.Omega.{arith}
use lib.Dec.{eqb, ltb}
use lib.ListN.{length, get_or, set, length-set, get_or-eq_default}
use lib.Seq.{get_or-set_same, get_or-set_other, ext_get_or}
use borrow.Author.Tests.{eq-eqb, ne_eqb, lt-ltb, le-ltb}
use Rattle.lists.specs.Choice.{choose}
use Rattle.lists.specs.Places.{map_from, map_places}
use Rattle.lists.proofs.Choice.{yes!, no! }

-- an element after one was set
pub at_set {ℓ} : {A : Type 0} (P : A → Type ℓ) (l : List A) (i : ℕ) (v : A) (j : ℕ) (d : A) → i < length l → (j ≡ i → P v) → (j ≢ i → P (get_or l j d)) → P (get_or (set l i v) j d)
at_set P l i v j d h same other = go (ℕ_discrete j i)
  where
    go : Dec (j ≡ i) → P (get_or (set l i v) j d)
    go (yes q) = rw (q, get_or-set_same l i v d h) (same q)
    go (no q) = rw (get_or-set_other l i j v d q) (other q)

module _ {A : Type 0} (f : ℕ → A → A) where
  length_from : (i : ℕ) (l : List A) → length (map_from f i l) ≡ length l
  unfolding map_from
  length_from i [] = refl
  length_from i (x ∷ xs) = ap suc (length_from (i + 1) xs)

  get_or-from : (i : ℕ) (l : List A) (k : ℕ) (d : A) → k < length l → get_or (map_from f i l) k d ≡ f (i + k) (get_or l k d)
  unfolding map_from
  get_or-from i [] k d h = absurd (omega arith)
  get_or-from i (x ∷ xs) zero d h = ap (λ n. f n x) (omega arith)
  get_or-from i (x ∷ xs) (suc k) d h = get_or-from (i + 1) xs k d (omega arith) ∙ ap (λ n. f n (get_or xs k d)) (omega arith)

  pub length-map_places : (l : List A) → length (map_places f l) ≡ length l
  unfolding map_places
  length-map_places l = length_from 0 l

  pub get_or-map_places : (l : List A) (k : ℕ) (d : A) → k < length l → get_or (map_places f l) k d ≡ f k (get_or l k d)
  unfolding map_places
  get_or-map_places l k d h = get_or-from 0 l k d h ∙ ap (λ n. f n (get_or l k d)) (omega arith)

-- two changes that agree at every place of the list
pub map_alike : {A : Type 0} (f g : ℕ → A → A) (l : List A) → ((k : ℕ) (x : A) → k < length l → f k x ≡ g k x) → map_places f l ≡ map_places g l
unfolding map_places map_from
map_alike {A} f g l h = go 0 l (λ k x a b. h k x (omega arith))
  where
    go : (i : ℕ) (m : List A) → ((k : ℕ) (x : A) → i ≤ k → k < i + length m → f k x ≡ g k x) → map_from f i m ≡ map_from g i m
    go i [] e = refl
    go i (x ∷ xs) e = ap₂ ◌∷◌ (e i x (omega arith) (omega arith)) (go (i + 1) xs (λ k y a b. e k y (omega arith) (omega arith)))

-- a change that leaves every element
pub map_nothing : {A : Type 0} (l : List A) → map_places (λ k x. x) l ≡ l
unfolding map_places map_from
map_nothing {A} l = go 0 l
  where
    go : (i : ℕ) (m : List A) → map_from (λ k x. x) i m ≡ m
    go i [] = refl
    go i (x ∷ xs) = ap (◌∷◌ x) (go (i + 1) xs)

-- what stands at any place; a place past the end reads as d, which the change leaves
pub map_at : {A : Type 0} (f : ℕ → A → A) (l : List A) (d : A) → ((k : ℕ) → f k d ≡ d) → (k : ℕ) → get_or (map_places f l) k d ≡ f k (get_or l k d)
map_at f l d same k = go (dec_le (length l) k)
  where
    go : Dec (length l ≤ k) → get_or (map_places f l) k d ≡ f k (get_or l k d)
    go (yes h) =
        get_or-eq_default (map_places f l) d {n = k} (rw (length-map_places f l) h)
        ∙ sym (ap (f k) (get_or-eq_default l d {n = k} h) ∙ same k)
    go (no h) = get_or-map_places f l k d (omega arith)

-- nothing changes
pub map_same : {A : Type 0} (f : ℕ → A → A) (l : List A) (d : A) → ((k : ℕ) → k < length l → f k (get_or l k d) ≡ get_or l k d) → map_places f l ≡ l
map_same f l d h =
    ext_get_or d (map_places f l) l (length-map_places f l) (λ k b.
    let b2 : k < length l = rw (length-map_places f l) at b in
    get_or-map_places f l k d b2 ∙ h k b2)

-- one element changes
pub map_one : {A : Type 0} (l : List A) (i : ℕ) (v d : A) → i < length l → map_places (λ k x. choose (eqb i k) v x) l ≡ set l i v
map_one {A} l i v d h =
    ext_get_or d (map_places f l) (set l i v) (length-map_places f l ∙ sym (length-set l i v)) (λ k b.
    let b2 : k < length l = rw (length-map_places f l) at b in
    get_or-map_places f l k d b2 ∙ at_set (λ y. f k (get_or l k d) ≡ y) l i v k d h
    (λ e. yes! v (get_or l k d) (eq-eqb i k (sym e)))
    (λ ne. no! v (get_or l k d) (ne_eqb i k (λ e. ne (sym e)))))
  where
    f : ℕ → A → A
    f k x = choose (eqb i k) v x

-- A loop that changes a list from place 0 on: at the turn i the places below i are changed, and the others not yet.
unfoldable pub map_below : {A : Type 0} → (ℕ → A → A) → ℕ → List A → List A
map_below f i l = map_places (λ k x. choose (ltb k i) (f k x) x) l

module _ {A : Type 0} (f : ℕ → A → A) (l : List A) where
  pub length-map_below : (i : ℕ) → length (map_below f i l) ≡ length l
  unfolding map_below
  length-map_below i = length-map_places _ l

  pub below_done : (i k : ℕ) (d : A) → k < length l → k < i → get_or (map_below f i l) k d ≡ f k (get_or l k d)
  unfolding map_below
  below_done i k d h b = get_or-map_places _ l k d h ∙ yes! _ _ (lt-ltb k i b)

  pub below_left : (i k : ℕ) (d : A) → i ≤ k → get_or (map_below f i l) k d ≡ get_or l k d
  unfolding map_below
  below_left i k d b = go (dec_le (length l) k)
    where
      go : Dec (length l ≤ k) → get_or (map_below f i l) k d ≡ get_or l k d
      go (yes h) =
          get_or-eq_default (map_below f i l) d {n = k} (rw (length-map_below i) h)
          ∙ sym (get_or-eq_default l d {n = k} h)
      go (no h) = get_or-map_places _ l k d (omega arith) ∙ no! _ _ (le-ltb k i b)

  -- before the first turn
  pub below_none : l ≡ map_below f 0 l
  unfolding map_below
  below_none = sym (map_alike _ (λ k x. x) l (λ k x b. no! _ _ (le-ltb k 0 (omega arith))) ∙ map_nothing l)

  -- one turn
  pub below_more : (t : List A) (i : ℕ) (x d : A) → i < length l → t ≡ map_below f i l → x ≡ f i (get_or t i d) → set t i x ≡ map_below f (i + 1) l
  below_more t i x d h e p =
      let same : length t ≡ length l = ap length e ∙ length-map_below i in
      ext_get_or d (set t i x) (map_below f (i + 1) l) (length-set t i x ∙ same ∙ sym (length-map_below (i + 1))) (λ k b.
      let in_l : k < length l = omega (arith, length-set t i x) in
      at_set (λ y. y ≡ get_or (map_below f (i + 1) l) k d) t i x k d (omega arith)
      (λ q. rw q (p ∙ ap (λ m. f i (get_or m i d)) e ∙ ap (f i) (below_left i i d (omega arith)) ∙ sym (below_done (i + 1) i d h (omega arith))))
      (λ ne. ap (λ m. get_or m k d) e ∙ other k ne in_l (dec_le i k)))
    where
      other : (k : ℕ) → k ≢ i → k < length l → Dec (i ≤ k) → get_or (map_below f i l) k d ≡ get_or (map_below f (i + 1) l) k d
      other k ne b (yes h) = below_left i k d h ∙ sym (below_left (i + 1) k d (omega arith))
      other k ne b (no h) = below_done i k d b (omega arith) ∙ sym (below_done (i + 1) k d b (omega arith))

  -- after the last
  pub below_all : (i : ℕ) → length l ≤ i → map_below f i l ≡ map_places f l
  unfolding map_below
  below_all i h = map_alike _ f l (λ k x b. yes! _ _ (lt-ltb k i (omega arith)))
