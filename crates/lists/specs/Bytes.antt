-- Bytes of a long list. A part is replaced or taken out where it stands in one run, or address by address,
-- where address a has its byte at the place pl a of the long list.
use Rattle.std.specs.Prelude.{ℕ, zero, suc, ◌+◌, List, [], ◌∷◌, ◌++◌, length, get_or, set, take, drop}

-- d in place of as many elements of l, from p on
unfoldable pub over : {A : Type 0} → List A → ℕ → List A → List A
over l p d = take p l ++ (d ++ drop (p + length d) l)

-- n elements of l, from p on
unfoldable pub part : {A : Type 0} → List A → ℕ → ℕ → List A
part l p n = take n (drop p l)

-- the bytes bs written from address a on
unfoldable pub put : (ℕ → ℕ) → ℕ → List ℕ → List ℕ → List ℕ
put pl a [] m = m
put pl a (b ∷ bs) m = put pl (a + 1) bs (set m (pl a) b)

-- n bytes read from address a on
unfoldable pub get : (ℕ → ℕ) → ℕ → ℕ → List ℕ → List ℕ
get pl a zero m = []
get pl a (suc n) m = get_or m (pl a) 0 ∷ get pl (a + 1) n m
