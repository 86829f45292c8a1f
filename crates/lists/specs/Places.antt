-- Tests, searches and counts over the places 0, 1, .. of a table, and a list changed place by place.
-- Each goes upwards from a place, as a loop does.
use Rattle.std.specs.Prelude.{ℕ, zero, suc, ◌+◌, Bool, true, false, List, [], ◌∷◌, ltb}
use Rattle.lists.specs.Choice.{both, choose}

-- p holds at each of n places from i
unfoldable pub all_from : (ℕ → Bool) → ℕ → ℕ → Bool
all_from p i zero = true
all_from p i (suc n) = both (p i) (all_from p (i + 1) n)

-- p holds at each place below n
unfoldable pub every : (ℕ → Bool) → ℕ → Bool
every p n = all_from p 0 n

-- the lowest of n places from i at which p holds, and i + n where there is none
unfoldable pub lowest_from : (ℕ → Bool) → ℕ → ℕ → ℕ
lowest_from p i zero = i
lowest_from p i (suc n) = elim (p i) [ true ↦ i | false ↦ lowest_from p (i + 1) n ]

-- the lowest place below n at which p holds, and n where there is none
unfoldable pub lowest : (ℕ → Bool) → ℕ → ℕ
lowest p n = lowest_from p 0 n

-- p holds at one of the places below n
unfoldable pub some : (ℕ → Bool) → ℕ → Bool
some p n = ltb (lowest p n) n

-- at how many places below n p holds
unfoldable pub count : (ℕ → Bool) → ℕ → ℕ
count p zero = 0
count p (suc n) = choose (p n) (count p n + 1) (count p n)

-- a test as a number
unfoldable pub one_if : Bool → ℕ
one_if true = 1
one_if false = 0

-- the element at each place, changed by f, which sees the place; the list starts at place i
unfoldable pub map_from : {A : Type 0} → (ℕ → A → A) → ℕ → List A → List A
map_from f i [] = []
map_from f i (x ∷ xs) = f i x ∷ map_from f (i + 1) xs

unfoldable pub map_places : {A : Type 0} → (ℕ → A → A) → List A → List A
map_places f l = map_from f 0 l
