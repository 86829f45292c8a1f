-- Laws of bytes written and read address by address. Assumes nothing.
use Prim.Native.Nat.{ℕ, zero, suc, ◌+◌, ◌-◌, ◌≤◌, ◌<◌}
use mathlib.Core.List.{List, [], ◌∷◌, ◌++◌, append-nil}
use mathlib.Core.Logic.{◌≢◌}
use mathlib.Core.Path.{◌≡◌, refl, sym, ap, ap₂, ◌∙◌}
use native.Mathlib.Decide.{dec_le}
use native.Mathlib.Nat.{zero-add}
use native.Mathlib.Numerals.{add-one}
use native.Mathlib.Omega.{arith}
use lib.ListN.{length, get_or, set, take, drop, length-set, length-take, length-drop, length-append, drop_of_length-le, get_or-append}
use lib.Seq.{get_or-set_same, get_or-set_other, ext_get_or, get_or-take, get_or-drop, length-take-le, take_all, drop-drop, get_or-append-add, paste, paste-zero, paste-suc}
use Rattle.lists.specs.Bytes.{over, part, put, get}

-- a part taken out, and a part replaced
module _ {A : Type 0} where
  pub length-part : (l : List A) (p n : ℕ) → p + n ≤ length l → length (part l p n) ≡ n
  unfolding part
  length-part l p n h = simp (length-take, length-drop) (omega arith)

  pub get_or-part : (l : List A) (p n i : ℕ) (d : A) → i < n → get_or (part l p n) i d ≡ get_or l (p + i) d
  unfolding part
  get_or-part l p n i d h = get_or-take n (drop p l) i d h ∙ get_or-drop p l i d

  pub length-over : (l : List A) (p : ℕ) (x : List A) → p + length x ≤ length l → length (over l p x) ≡ length l
  unfolding over
  length-over l p x h = simp (length-append, length-take, length-drop) (omega arith)

  pub over_before : (l : List A) (p : ℕ) (x : List A) (i : ℕ) (d : A) → p + length x ≤ length l → i < p → get_or (over l p x) i d ≡ get_or l i d
  unfolding over
  over_before l p x i d h b =
      get_or-append (take p l) _ d i (rw (length-take-le p l (omega arith)) b) ∙ get_or-take p l i d b

  pub over_inside : (l : List A) (p : ℕ) (x : List A) (i : ℕ) (d : A) → p + length x ≤ length l → i < length x → get_or (over l p x) (p + i) d ≡ get_or x i d
  unfolding over
  over_inside l p x i d h b =
      let e : p + i ≡ length (take p l) + i = ap (λ n. n + i) (sym (length-take-le p l (omega arith))) in
      ap (λ n. get_or (take p l ++ (x ++ drop (p + length x) l)) n d) e
      ∙ get_or-append-add (take p l) (x ++ drop (p + length x) l) i d
      ∙ get_or-append x _ d i b

  pub over_after : (l : List A) (p : ℕ) (x : List A) (i : ℕ) (d : A) → p + length x ≤ length l → p + length x ≤ i → get_or (over l p x) i d ≡ get_or l i d
  unfolding over
  over_after l p x i d h b =
      let n = i - (p + length x) in
      let e : i ≡ length (take p l) + (length x + n) = rw (length-take-le p l (omega arith)) (omega arith) in
      ap (λ k. get_or (take p l ++ (x ++ drop (p + length x) l)) k d) e
      ∙ get_or-append-add (take p l) (x ++ drop (p + length x) l) (length x + n) d
      ∙ get_or-append-add x (drop (p + length x) l) n d
      ∙ get_or-drop (p + length x) l n d
      ∙ ap (λ k. get_or l k d) (omega arith)

  -- the first elements, all of them, and a list replaced whole
  pub part_all : (x : List A) (n : ℕ) → length x ≤ n → part x 0 n ≡ x
  unfolding part
  part_all x n h = take_all n x h

  pub over_whole : (l x : List A) → length l ≡ length x → over l 0 x ≡ x
  unfolding over
  over_whole l x e =
      ap (λ r. x ++ r) (drop_of_length-le l {i = 0 + length x} (omega arith)) ∙ append-nil x

  -- a loop that writes x over the front of l, an element a turn: t is l with the first i elements of x
  over_paste : (l x : List A) (i : ℕ) → i ≤ length x → paste l 0 x i ≡ over l 0 (part x 0 i)
  unfolding over part
  over_paste l x i h = rw (length-take-le i x h)

  pub copy_none : (l x : List A) → l ≡ over l 0 (part x 0 0)
  copy_none l x = paste-zero l 0 x ∙ over_paste l x 0 (omega arith)

  pub copy_turn : (l x t : List A) (i : ℕ) (v d : A) → t ≡ over l 0 (part x 0 i) → i < length x → i < length l → v ≡ get_or x i d → set t i v ≡ over l 0 (part x 0 (i + 1))
  copy_turn l x t i v d e hx hl q =
      ap₂ (λ y w. set y i w) (e ∙ sym (over_paste l x i (omega arith))) q
      ∙ ap (λ k. set (paste l 0 x i) k (get_or x i d)) (sym (zero-add i))
      ∙ paste-suc l 0 x i d (omega arith) hx
      ∙ ap (paste l 0 x) (sym (add-one i))
      ∙ over_paste l x (i + 1) (omega arith)

  -- a list lent from p on: what is taken of it, and how it comes back with x over its front
  lent : (l : List A) (p : ℕ) → take (length l - p) (drop p l) ≡ drop p l
  lent l p = take_all (length l - p) (drop p l) (omega (arith, length-drop p l))

  pub part_lent : (l t : List A) (p n : ℕ) → t ≡ part (take (length l - p) (drop p l)) 0 n → t ≡ part l p n
  unfolding part
  part_lent l t p n e = e ∙ ap (take n) (lent l p)

  pub over_lent : (l x y : List A) (p : ℕ) → y ≡ over (take (length l - p) (drop p l)) 0 x → take p l ++ (y ++ drop (length l - p) (drop p l)) ≡ over l p x
  unfolding over
  over_lent l x y p e =
      ap (λ r. take p l ++ r)
      (ap₂ ◌++◌ (e ∙ ap (λ r. x ++ drop (0 + length x) r) (lent l p)) (drop_of_length-le (drop p l) {i = length l - p} (omega (arith, length-drop p l)))
      ∙ append-nil _
      ∙ ap (λ r. x ++ r) (drop-drop (0 + length x) p l ∙ ap (λ k. drop (p + k) l) (zero-add (length x))))

-- one byte stored in two lists
set_agree : (m n : List ℕ) (q b p : ℕ) → length m ≡ length n → get_or m p 0 ≡ get_or n p 0 → get_or (set m q b) p 0 ≡ get_or (set n q b) p 0
set_agree [] [] q b p l e = refl
set_agree [] (y ∷ ys) q b p l e = absurd (omega arith)
set_agree (x ∷ xs) [] q b p l e = absurd (omega arith)
set_agree (x ∷ xs) (y ∷ ys) zero b zero l e = refl
set_agree (x ∷ xs) (y ∷ ys) (suc q) b zero l e = e
set_agree (x ∷ xs) (y ∷ ys) zero b (suc p) l e = e
set_agree (x ∷ xs) (y ∷ ys) (suc q) b (suc p) l e = set_agree xs ys q b p (omega arith) e

module _ (pl : ℕ → ℕ) where
  pub length-put : (a : ℕ) (bs m : List ℕ) → length (put pl a bs m) ≡ length m
  unfolding put
  length-put a [] m = refl
  length-put a (b ∷ bs) m = length-put (a + 1) bs (set m (pl a) b) ∙ length-set m (pl a) b

  pub length-get : (a n : ℕ) (m : List ℕ) → length (get pl a n m) ≡ n
  unfolding get
  length-get a zero m = refl
  length-get a (suc n) m = ap suc (length-get (a + 1) n m)

  pub get_or-get : (a n k : ℕ) (m : List ℕ) → k < n → get_or (get pl a n m) k 0 ≡ get_or m (pl (a + k)) 0
  unfolding get
  get_or-get a zero k m h = absurd (omega arith)
  get_or-get a (suc n) zero m h = ap (λ x. get_or m (pl x) 0) (omega arith)
  get_or-get a (suc n) (suc k) m h = get_or-get (a + 1) n k m (omega arith) ∙ ap (λ x. get_or m (pl x) 0) (omega arith)

  -- a place that no written address has keeps its byte
  pub put_off : (a : ℕ) (bs m : List ℕ) (p : ℕ) → ((k : ℕ) → a ≤ k → k < a + length bs → p ≢ pl k) → get_or (put pl a bs m) p 0 ≡ get_or m p 0
  unfolding put
  put_off a [] m p h = refl
  put_off a (b ∷ bs) m p h =
      put_off (a + 1) bs (set m (pl a) b) p (λ k l u. h k (omega arith) (omega arith))
      ∙ get_or-set_other m (pl a) p b 0 (h a (omega arith) (omega arith))

  -- what was written stands there, where the places are apart and inside
  pub put_on : (a : ℕ) (bs m : List ℕ) → ((j k : ℕ) → a ≤ j → j < k → k < a + length bs → pl j ≢ pl k) → ((k : ℕ) → a ≤ k → k < a + length bs → pl k < length m)
      → (k : ℕ) → k < length bs → get_or (put pl a bs m) (pl (a + k)) 0 ≡ get_or bs k 0
  unfolding put
  put_on a [] m apart inside k h = absurd (omega arith)
  put_on a (b ∷ bs) m apart inside zero h =
      let e : a + 0 ≡ a = omega arith in
      rw e
      (put_off (a + 1) bs (set m (pl a) b) (pl a) (λ k l u. apart a k (omega arith) (omega arith) (omega arith))
      ∙ get_or-set_same m (pl a) b 0 (inside a (omega arith) (omega arith)))
  put_on a (b ∷ bs) m apart inside (suc k) h =
      let e : a + suc k ≡ a + 1 + k = omega arith in
      rw e
      (put_on (a + 1) bs (set m (pl a) b) (λ i j l x u. apart i j (omega arith) x (omega arith))
      (λ j l u. rw (length-set m (pl a) b) (inside j (omega arith) (omega arith))) k (omega arith))

  -- and is read back
  pub get_put : (a : ℕ) (bs m : List ℕ) → ((j k : ℕ) → a ≤ j → j < k → k < a + length bs → pl j ≢ pl k) → ((k : ℕ) → a ≤ k → k < a + length bs → pl k < length m)
      → get pl a (length bs) (put pl a bs m) ≡ bs
  get_put a bs m apart inside =
      ext_get_or 0 (get pl a (length bs) (put pl a bs m)) bs (length-get a (length bs) (put pl a bs m)) (λ k h.
      let l : k < length bs = rw (length-get a (length bs) (put pl a bs m)) at h in
      get_or-get a (length bs) k (put pl a bs m) l ∙ put_on a bs m apart inside k l)

  -- two lists that agree at the places read
  pub get_agree : (a n : ℕ) (m₁ m₂ : List ℕ) → ((k : ℕ) → a ≤ k → k < a + n → get_or m₁ (pl k) 0 ≡ get_or m₂ (pl k) 0) → get pl a n m₁ ≡ get pl a n m₂
  unfolding get
  get_agree a zero m₁ m₂ h = refl
  get_agree a (suc n) m₁ m₂ h =
      ap₂ ◌∷◌ (h a (omega arith) (omega arith)) (get_agree (a + 1) n m₁ m₂ (λ k l u. h k (omega arith) (omega arith)))

  -- the same bytes written to two lists: they agree where they agreed
  pub put_agree : (a : ℕ) (bs m₁ m₂ : List ℕ) (p : ℕ) → length m₁ ≡ length m₂ → get_or m₁ p 0 ≡ get_or m₂ p 0 → get_or (put pl a bs m₁) p 0 ≡ get_or (put pl a bs m₂) p 0
  unfolding put
  put_agree a [] m₁ m₂ p l e = e
  put_agree a (b ∷ bs) m₁ m₂ p l e =
      put_agree (a + 1) bs (set m₁ (pl a) b) (set m₂ (pl a) b) p (length-set m₁ (pl a) b ∙ l ∙ sym (length-set m₂ (pl a) b)) (set_agree m₁ m₂ (pl a) b p l e)

  -- a part of what is read
  pub get_part : (n a k : ℕ) (m : List ℕ) → a + k ≤ n → get pl a k m ≡ part (get pl 0 n m) a k
  get_part n a k m h =
      let same = length-part (get pl 0 n m) a k (omega (arith, length-get 0 n m)) in
      ext_get_or 0 (get pl a k m) (part (get pl 0 n m) a k) (length-get a k m ∙ sym same) (λ i l.
      let b : i < k = rw (length-get a k m) at l in
      get_or-get a k i m b
      ∙ sym (get_or-part (get pl 0 n m) a k i 0 b ∙ get_or-get 0 n (a + i) m (omega arith) ∙ ap (λ x. get_or m (pl x) 0) (omega arith)))

  -- addresses that lie in one run: what is written and read there is a part of the list
  pub put_run : (a p : ℕ) (bs m : List ℕ) → ((k : ℕ) → k < length bs → pl (a + k) ≡ p + k) → p + length bs ≤ length m → put pl a bs m ≡ over m p bs
  put_run a p bs m run fits =
      ext_get_or 0 (put pl a bs m) (over m p bs) (length-put a bs m ∙ sym (length-over m p bs fits)) (λ i l.
      let b : i < length m = rw (length-put a bs m) at l in
      go i b (dec_le p i) (dec_le (p + length bs) i))
    where
      where_is : (k : ℕ) → a ≤ k → k < a + length bs → pl k ≡ p + (k - a)
      where_is k l u = let e : k ≡ a + (k - a) = omega arith in ap pl e ∙ run (k - a) (omega arith)

      off : (i : ℕ) → ((i < p → ⊥) → p + length bs ≤ i) → get_or (put pl a bs m) i 0 ≡ get_or m i 0
      off i f = put_off a bs m i (λ k l u e. let q : i ≡ p + (k - a) = e ∙ where_is k l u in absurd (omega (arith, f (λ z. omega arith))))

      go : (i : ℕ) → i < length m → Dec (p ≤ i) → Dec (p + length bs ≤ i) → get_or (put pl a bs m) i 0 ≡ get_or (over m p bs) i 0
      go i b (no l) d = off i (λ f. absurd (f (omega arith))) ∙ sym (over_before m p bs i 0 fits (omega arith))
      go i b (yes l) (yes u) = off i (λ _. u) ∙ sym (over_after m p bs i 0 fits u)
      go i b (yes l) (no u) =
          let e : i ≡ p + (i - p) = omega arith in
          let q : pl (a + (i - p)) ≡ i = run (i - p) (omega arith) ∙ sym e in
          ap (λ x. get_or (put pl a bs m) x 0) (sym q)
          ∙ put_on a bs m apart inside (i - p) (omega arith)
          ∙ sym (ap (λ x. get_or (over m p bs) x 0) e ∙ over_inside m p bs (i - p) 0 fits (omega arith))
        where
          apart : (j k : ℕ) → a ≤ j → j < k → k < a + length bs → pl j ≢ pl k
          apart j k x y z e = let q = sym (where_is j x (omega arith)) ∙ e ∙ where_is k (omega arith) z in omega arith

          inside : (k : ℕ) → a ≤ k → k < a + length bs → pl k < length m
          inside k x z = omega (arith, where_is k x z)

  pub get_run : (a p n : ℕ) (m : List ℕ) → ((k : ℕ) → k < n → pl (a + k) ≡ p + k) → p + n ≤ length m → get pl a n m ≡ part m p n
  get_run a p n m run fits =
      ext_get_or 0 (get pl a n m) (part m p n) (length-get a n m ∙ sym (length-part m p n fits)) (λ i l.
      let b : i < n = rw (length-get a n m) at l in
      get_or-get a n i m b ∙ ap (λ x. get_or m x 0) (run i b) ∙ sym (get_or-part m p n i 0 b))
