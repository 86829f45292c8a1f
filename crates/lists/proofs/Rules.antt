-- For search in the proofs of code: a chain of tests is walked one test at a time, and a loop one turn at a time. Each rule
-- is a law of this library, stated so that its conclusion fits a goal. Assumes nothing.
use Prim.Native.Nat.{ℕ, ◌+◌, ◌-◌, ◌≤◌, ◌<◌}
use mathlib.Core.Bool.{Bool, true, false, not}
use mathlib.Core.List.{List}
use mathlib.Core.Path.{◌≡◌, refl, sym, ap, ◌∙◌}
use native.Mathlib.Omega.{arith}
use lib.Dec.{leb}
use lib.ListN.{length, get_or, set}
use borrow.Author.Tests.{lt-ltb, le-ltb, le-leb, lt-leb, eq-eqb, ne_eqb, not-true, not-false}
use Rattle.lists.specs.Choice.{choose, both, either, implies}
use Rattle.lists.specs.Places.{all_from, lowest_from, map_places}
use Rattle.lists.proofs.Choice.{true_false, yes!, no!, both_yes, both_no, either_left, either_right, either_none, implies_of}
use Rattle.lists.proofs.Maps.{map_below, below_none, below_more, below_all}
use Rattle.lists.proofs.Places.{all_yes, all_no, all_end, lowest_yes, lowest_no, lowest_end}

-- a choice
pub take! : {A : Type 0} {x : A} (t : Bool) (a b : A) → t ≡ true → x ≡ a → x ≡ choose t a b
take! t a b e p = p ∙ sym (yes! a b e)

pub pass! : {A : Type 0} {x : A} (t : Bool) (a b : A) → t ≡ false → x ≡ b → x ≡ choose t a b
pass! t a b e p = p ∙ sym (no! a b e)

-- a conjunction, as a result and as a test
pub and_go : {x : Bool} (t b : Bool) → t ≡ true → x ≡ b → x ≡ both t b
and_go t b e p = p ∙ sym (both_yes b e)

pub and_stop : (t b : Bool) → t ≡ false → false ≡ both t b
and_stop t b e = sym (both_no b e)

pub and_true : (t b : Bool) → t ≡ true → b ≡ true → both t b ≡ true
and_true t b e f = both_yes b e ∙ f

pub and_false : (t b : Bool) → t ≡ false → both t b ≡ false
and_false t b e = both_no b e

pub and_late : (t b : Bool) → t ≡ true → b ≡ false → both t b ≡ false
and_late t b e f = both_yes b e ∙ f

-- a disjunction
pub or_first : (t b : Bool) → t ≡ true → true ≡ either t b
or_first t b e = sym (either_left t b e)

pub or_go : {x : Bool} (t b : Bool) → t ≡ false → x ≡ b → x ≡ either t b
unfolding either
or_go true b e p = true_false refl e
or_go false b e p = p

pub or_false : (t b : Bool) → t ≡ false → b ≡ false → either t b ≡ false
or_false t b e f = either_none t b e f

pub or_true : (t b : Bool) → t ≡ true → either t b ≡ true
or_true t b e = either_left t b e

pub or_late : (t b : Bool) → b ≡ true → either t b ≡ true
or_late t b e = either_right t b e

-- an implication
pub if_true : (t b : Bool) → b ≡ true → implies t b ≡ true
if_true t b e = implies_of t b (λ _. e)

pub if_false : (t b : Bool) → t ≡ false → implies t b ≡ true
if_false t b e = implies_of t b (λ y. true_false y e)

pub if_go : {x : Bool} (t b : Bool) → t ≡ true → x ≡ b → x ≡ implies t b
unfolding implies
if_go true b e p = p
if_go false b e p = true_false e refl

pub if_stop : (t b : Bool) → t ≡ true → b ≡ false → implies t b ≡ false
unfolding implies
if_stop true b e f = f
if_stop false b e f = true_false e refl

-- numbers
pub zero_leb : (n : ℕ) → n ≡ 0 → leb 1 n ≡ false
zero_leb n e = lt-leb 1 n (omega arith)

pub pos_leb : (n : ℕ) → (n ≡ 0 → ⊥) → leb 1 n ≡ true
pos_leb n e = le-leb 1 n (omega arith)

-- negations, and what a call that answers a Boolean answered
pub not_yes : (b : Bool) → b ≡ true → not b ≡ false
not_yes b e = ap not e

pub not_no : (b : Bool) → b ≡ false → not b ≡ true
not_no b e = ap not e

pub is_of : (r t : Bool) {b : Bool} → r ≡ t → r ≡ b → t ≡ b
is_of r t p e = sym p ∙ e

pub test_no : (r t : Bool) → r ≡ t → not r ≡ true → t ≡ false
test_no r t p e = sym p ∙ not-true r e

pub test_yes : (r t : Bool) → r ≡ t → not r ≡ false → t ≡ true
test_yes r t p e = sym p ∙ not-false r e

pub ruleset tests = (and_go, and_stop, and_true, and_false, and_late, or_first, or_go, or_false, or_true, or_late, if_true, if_false, if_stop, take!, pass!, zero_leb, pos_leb, lt-ltb, le-ltb, le-leb, lt-leb, eq-eqb, ne_eqb, not_yes, not_no, test_no, test_yes, not-true, not-false)

pub ruleset calls = (and_go, and_stop, take!, pass!, test_no, test_yes, is_of)

-- a loop that tests every place from i up to e
pub all_go : (x : Bool) (p : ℕ → Bool) (i e : ℕ) → x ≡ all_from p i (e - i) → i < e → p i ≡ true → x ≡ all_from p (i + 1) (e - (i + 1))
all_go x p i e v l y = v ∙ all_yes p i e l y

pub all_stop : (x : Bool) (p : ℕ → Bool) (i e : ℕ) → x ≡ all_from p i (e - i) → i < e → p i ≡ false → false ≡ x
all_stop x p i e v l y = sym (v ∙ all_no p i e l y)

pub all_done : (x : Bool) (p : ℕ → Bool) (i e : ℕ) → x ≡ all_from p i (e - i) → e ≤ i → true ≡ x
all_done x p i e v l = sym (v ∙ all_end p i e l)

-- a loop that looks for the lowest place from i up to e
pub lowest_go : (x : ℕ) (p : ℕ → Bool) (i e : ℕ) → x ≡ lowest_from p i (e - i) → i < e → p i ≡ false → x ≡ lowest_from p (i + 1) (e - (i + 1))
lowest_go x p i e v l y = v ∙ lowest_no p i e l y

pub lowest_stop : (x : ℕ) (p : ℕ → Bool) (i e : ℕ) → x ≡ lowest_from p i (e - i) → i < e → p i ≡ true → i ≡ x
lowest_stop x p i e v l y = sym (v ∙ lowest_yes p i e l y)

pub lowest_done : (x : ℕ) (p : ℕ → Bool) (i e : ℕ) → x ≡ lowest_from p i (e - i) → e ≤ i → i ≡ x
lowest_done x p i e v l = sym (v ∙ lowest_end p i e l)

pub ruleset loops = (all_go, all_stop, all_done, lowest_go, lowest_stop, lowest_done, test_no, test_yes, is_of, eq-eqb, ne_eqb, arith)

-- a loop that changes every place from 0 on
pub map_start : {A : Type 0} (f : ℕ → A → A) (l : List A) → l ≡ map_below f 0 l
map_start f l = below_none f l

pub map_go : {A : Type 0} (f : ℕ → A → A) (l t : List A) (i : ℕ) (x d : A) → t ≡ map_below f i l → x ≡ f i (get_or t i d) → i < length l → set t i x ≡ map_below f (i + 1) l
map_go f l t i x d e p h = below_more f l t i x d h e p

pub map_done : {A : Type 0} (f : ℕ → A → A) (l t : List A) (i n : ℕ) → t ≡ map_below f i l → length l ≡ n → n ≤ i → t ≡ map_places f l
map_done f l t i n e len h = e ∙ below_all f l i (omega arith)

pub ruleset maps = (map_start, map_go, map_done)
