-- What is held of a line: as many bytes as are said to be held, and after a part of it has come. Assumes nothing.
use Prim.Native.Nat.{ℕ, min, ◌+◌, ◌-◌, ◌≤◌}
use mathlib.Core.List.{List, ◌++◌, append_assoc}
use mathlib.Core.Path.{◌≡◌, sym, ap, ◌∙◌}
use native.Mathlib.Omega.{arith}
use lib.ListN.{length, take, drop, length-take, length-append}
use lib.Seq.{length-take-le, take_at, take-append-add}
use Rattle.lists.specs.Bytes.{over}
use Rattle.lists.proofs.Bytes.{over_lent}
use Rattle.lists.proofs.Parts.{take_least}

-- as many bytes of the part p as there is room for are put behind the first bytes
placed : (h p y : List ℕ) (have n : ℕ) → length h ≡ 601 → have ≤ 601 → n ≡ min (length p) (601 - have)
    → y ≡ over (take (length h - have) (drop have h)) 0 (take (n - 0) (drop 0 p))
    → take (have + n) (take have h ++ (y ++ drop (length h - have) (drop have h))) ≡ take 601 (take have h ++ p)
unfolding over
placed h p y have n l k e f =
    let x = take (n - 0) p in
    let z : n - 0 ≡ n = omega arith in
    let front : length (take have h) ≡ have = length-take-le have h (omega arith) in
    let long : length x ≡ n = ap (λ j. length (take j p)) z ∙ length-take-le n p (omega arith) in
    let room : 601 ≡ length (take have h) + (601 - have) = omega arith in
    ap (take (have + n)) (over_lent h x y have f ∙ sym (append_assoc (take have h) x _))
    ∙ take_at (take have h ++ x) _ (have + n) (omega (arith, length-append (take have h) x))
    ∙ ap (λ r. take have h ++ r) (ap (λ j. take j p) z ∙ take_least p (601 - have) n e)
    ∙ sym (ap (λ j. take j (take have h ++ p)) room ∙ take-append-add (take have h) p (601 - have))

-- the bytes held are the first ones, no more than there are
pub hold_part : (h p y : List ℕ) (have start n : ℕ) → length h ≡ 601 → start ≡ length (take have h) → n ≡ min (length p) (601 - start)
    → y ≡ over (take (length h - start) (drop start h)) 0 (take (n - 0) (drop 0 p))
    → take (start + n) (take start h ++ (y ++ drop (length h - start) (drop start h))) ≡ take 601 (take have h ++ p)
hold_part h p y have start n l s e f =
    let same : take start h ≡ take have h = take_least h have start (omega (arith, length-take have h)) in
    placed h p y start n l (omega (arith, length-take have h)) e f ∙ ap (λ x. take 601 (x ++ p)) same
