-- A call is known by its name as one number. Assumes nothing.
use Prim.Native.Nat.{ℕ, zero, suc, ◌+◌, ◌*◌, ◌^◌, ◌≤◌, ◌<◌}
use mathlib.Core.Bool.{Bool, true, false}
use mathlib.Core.List.{List, [], ◌∷◌}
use mathlib.Core.Path.{◌≡◌, refl, sym, ap, ap₂, ◌∙◌}
use native.Mathlib.Decide.{dec_le}
use native.Mathlib.Nat.{pow-suc, pow-le-pow_right, mul-le-mul_right}
use native.Mathlib.Numerals.{add-one}
use native.Mathlib.Omega.{arith}
use lib.Dec.{eqb, leb, ltb}
use lib.ListN.{length, get_or}
use borrow.Author.Tests.{eq-eqb, eqb-true, eqb-false, le-leb, leb-true, ltb-true, ltb-false}
use Rattle.std.proofs.Common.{cond, Some, None, position}
use Rattle.std.specs.List.{position_or_len}
use Rattle.std.proofs.lemmas.List.Quantifiers.{position-Some}
use Rattle.std.proofs.lemmas.List.Sums.{fails_before_first}
use Rattle.std.proofs.lemmas.Option.{none-some}
use Rattle.lists.specs.Choice.{both}
use Rattle.lists.specs.Places.{every, all_from}
use Rattle.lists.proofs.Choice.{yes!, no!, choose_elim, both_left, both_right, both_intro, not_so, true_false}
use Rattle.lists.proofs.Places.{every_at}
use Rattle.model.specs.declared.Request.TheVariants.{NotRead}
use Rattle.model.specs.Lines.{is, bad, spelt, packed, Form, forms, same_bytes, make_by, read_fields, read_by, calls, no_form, form_at}
use Rattle.fields.specs.Fields.{first_field, word_field}
use Rattle.fields.proofs.Readings.{Bytes}
use Rattle.fields.proofs.Spelling.{spelt_is}
use Rattle.forms.specs.Tables.{call_names}

-- two names of bytes that are the same number are the same name
tail_bytes : (b : ℕ) (f : List ℕ) → Bytes (b ∷ f) → Bytes f
tail_bytes b f k = record { byte = λ i. k.byte (suc i) }

pub packed_same : (a b : ℕ) (f g : List ℕ) → length f ≡ length g → Bytes f → Bytes g → packed a f ≡ packed b g → (a ≡ b) × (f ≡ g)
unfolding packed
packed_same a b [] [] l k m e = (e, refl)
packed_same a b [] (y ∷ g) l k m e = absurd (omega arith)
packed_same a b (x ∷ f) [] l k m e = absurd (omega arith)
packed_same a b (x ∷ f) (y ∷ g) l k m e =
    let r = packed_same (a * 256 + x) (b * 256 + y) f g (omega arith) (tail_bytes x f k) (tail_bytes y g m) e in
    (omega (arith, r.0, k.byte 0, m.byte 0), ap₂ ◌∷◌ (omega (arith, r.0, k.byte 0, m.byte 0)) r.1)

cons_bytes : (b : ℕ) (f : List ℕ) → b < 256 → Bytes f → Bytes (b ∷ f)
cons_bytes b f h k = record { byte = go }
  where
    go : (i : ℕ) → get_or (b ∷ f) i 0 < 256
    go zero = h
    go (suc i) = k.byte i

pub first_bytes : (f : List ℕ) → Bytes f → Bytes (first_field f)
unfolding first_field
first_bytes [] k = k
first_bytes (b ∷ f) k = choose_elim Bytes (eqb b 9) [] (b ∷ first_field f) (λ _. record { byte = λ i. omega arith }) (λ _. cons_bytes b (first_field f) (k.byte 0) (first_bytes f (tail_bytes b f k)))

-- a 1 before them tells how many bytes there are
packed_low : (v : ℕ) (f : List ℕ) → v * 256 ^ length f ≤ packed v f
unfolding packed
packed_low v [] = omega arith
packed_low v (b ∷ f) =
    let p : v * 256 * 256 ^ length f ≤ (v * 256 + b) * 256 ^ length f = mul-le-mul_right (256 ^ length f) (omega arith) in
    omega (arith, packed_low (v * 256 + b) f, ap (λ x. v * x) (pow-suc 256 (length f)))

packed_high : (v : ℕ) (f : List ℕ) → Bytes f → packed v f < (v + 1) * 256 ^ length f
unfolding packed
packed_high v [] k = omega arith
packed_high v (b ∷ f) k =
    let p : (v * 256 + b + 1) * 256 ^ length f ≤ (v + 1) * 256 * 256 ^ length f = mul-le-mul_right (256 ^ length f) (omega (arith, k.byte 0)) in
    omega (arith, packed_high (v * 256 + b) f (tail_bytes b f k), ap (λ x. (v + 1) * x) (pow-suc 256 (length f)))

not_longer : (f g : List ℕ) → Bytes f → packed 1 f ≡ packed 1 g → length g ≤ length f
not_longer f g k e = go (dec_le (length g) (length f))
  where
    go : Dec (length g ≤ length f) → length g ≤ length f
    go (yes h) = h
    go (no n) =
        let l : length f + 1 ≤ length g = omega arith in
        let p : 256 ^ (length f + 1) ≤ 256 ^ length g = pow-le-pow_right (omega arith) l in
        let q : 256 ^ (length f + 1) ≡ 256 ^ length f * 256 = ap (λ n. 256 ^ n) (add-one (length f)) ∙ pow-suc 256 (length f) in
        absurd (omega (arith, packed_high 1 f k, packed_low 1 g))

word_same : (f g : List ℕ) → Bytes f → Bytes g → packed 1 f ≡ packed 1 g → f ≡ g
word_same f g k m e = (packed_same 1 1 f g (omega (arith, not_longer f g k e, not_longer g f m (sym e))) k m e).1

-- The words of the forms are such, and stand in the table: one test, computed.
all_bytes : List ℕ → Bool
all_bytes [] = true
all_bytes (b ∷ bs) = both (ltb b 256) (all_bytes bs)

bytes_of : (f : List ℕ) → all_bytes f ≡ true → Bytes f
unfolding all_bytes
bytes_of [] e = record { byte = λ i. omega arith }
bytes_of (b ∷ f) e = cons_bytes b f (ltb-true b 256 (both_left (ltb b 256) (all_bytes f) e)) (bytes_of f (both_right (ltb b 256) (all_bytes f) e))

word_test : ℕ → Bool
word_test i =
    both (both (leb (length (form_at i).word) 7) (all_bytes (form_at i).word)) (eqb (get_or call_names i 0) (packed 1 (form_at i).word))

words_pass : every word_test calls ≡ true
unfolding word_test every all_from both all_bytes forms call_names packed
words_pass = refl

-- the i-th form's name
record Known (i : ℕ) : Type 0 where
  most : length (form_at i).word ≤ 7
  bytes : Bytes (form_at i).word
  number : get_or call_names i 0 ≡ packed 1 (form_at i).word

word_at : (i : ℕ) → i < calls → Known i
unfolding word_test
word_at i h =
    let w = (form_at i).word in
    let t = every_at word_test calls words_pass i h in
    let n = both_left (both (leb (length w) 7) (all_bytes w)) _ t in
    record {
      most = leb-true (length w) 7 (both_left _ (all_bytes w) n);
      bytes = bytes_of w (both_right (leb (length w) 7) (all_bytes w) n);
      number = eqb-true (get_or call_names i 0) (packed 1 w) (both_right (both (leb (length w) 7) (all_bytes w)) _ t);
    }

pub same_bytes_lem : (f g : List ℕ) → same_bytes f g ≡ true → f ≡ g
unfolding same_bytes
same_bytes_lem [] [] e = refl
same_bytes_lem [] (b ∷ g) e = true_false e refl
same_bytes_lem (a ∷ f) [] e = true_false e refl
same_bytes_lem (a ∷ f) (b ∷ g) e =
    ap₂ ◌∷◌ (eqb-true a b (both_left (eqb a b) (same_bytes f g) e)) (same_bytes_lem f g (both_right (eqb a b) (same_bytes f g) e))

same_self : (f : List ℕ) → same_bytes f f ≡ true
unfolding same_bytes
same_self [] = refl
same_self (a ∷ f) = both_intro (eqb a a) (same_bytes f f) (eq-eqb a a refl) (same_self f)

-- The i-th form is the call that a name names where the table has the name's number.
word_number : (w : List ℕ) (v : ℕ) → word_field w ≡ is v → packed 1 w ≡ v
unfolding word_field
word_number w v e = (spelt_is _ (packed 1 w) v e).1

word_yes : (i : ℕ) (w : List ℕ) (v : ℕ) → i < calls → Bytes w → word_field w ≡ is v → eqb (get_or call_names i 0) v ≡ true → same_bytes (form_at i).word w ≡ true
word_yes i w v h k e y =
    let f = word_at i h in
    let q = word_same (form_at i).word w f.bytes k (sym f.number ∙ eqb-true (get_or call_names i 0) v y ∙ sym (word_number w v e)) in
    ap (λ x. same_bytes x w) q ∙ same_self w

word_no : (i : ℕ) (w : List ℕ) (v : ℕ) → i < calls → word_field w ≡ is v → eqb (get_or call_names i 0) v ≡ false → same_bytes (form_at i).word w ≡ false
word_no i w v h e n =
    not_so _ (λ y. eqb-false (get_or call_names i 0) v n ((word_at i h).number ∙ ap (packed 1) (same_bytes_lem (form_at i).word w y) ∙ word_number w v e))

word_bad : (i : ℕ) (w : List ℕ) → i < calls → word_field w ≡ bad → same_bytes (form_at i).word w ≡ false
unfolding word_field spelt
word_bad i w h e =
    not_so _ (λ y.
    let g = le-leb (length w) 7 (omega (arith, (word_at i h).most, ap length (same_bytes_lem (form_at i).word w y))) in
    let q = sym (ap (λ b. spelt b (packed 1 w)) g) ∙ e in
    let z : ◌≡◌ {A = ℕ} 0 1 = cc in
    omega arith)

-- the first form whose word it is
read_here : (fs : List Form) (p : ℕ) (w : List ℕ) (xs : List (List ℕ)) → p < length fs → ((i : ℕ) → i < p → same_bytes (get_or fs i no_form).word w ≡ false) → same_bytes (get_or fs p no_form).word w ≡ true
    → read_by fs w xs ≡ make_by (get_or fs p no_form).make (read_fields (get_or fs p no_form).kinds xs)
unfolding read_by
read_here [] p w xs h f y = absurd (omega arith)
read_here (g ∷ fs) zero w xs h f y = yes! _ _ y
read_here (g ∷ fs) (suc p) w xs h f y = no! _ _ (f 0 (omega arith)) ∙ read_here fs p w xs (omega arith) (λ i l. f (suc i) (omega arith)) y

read_none : (fs : List Form) (w : List ℕ) (xs : List (List ℕ)) → ((i : ℕ) → i < length fs → same_bytes (get_or fs i no_form).word w ≡ false) → read_by fs w xs ≡ NotRead
unfolding read_by
read_none [] w xs f = refl
read_none (g ∷ fs) w xs f = no! _ _ (f 0 (omega arith)) ∙ read_none fs w xs (λ i l. f (suc i) (omega arith))

-- a name that the table lacks
position-None : (p : ℕ → Bool) (xs : List ℕ) (i d : ℕ) → position p xs ≡ None → i < length xs → p (get_or xs i d) ≡ false
position-None p xs i d e h = go (ltb (position_or_len p xs) (length xs)) refl e
  where
    go : (b : Bool) → ltb (position_or_len p xs) (length xs) ≡ b → cond b (Some (position_or_len p xs)) None ≡ None → p (get_or xs i d) ≡ false
    go true y q = absurd (none-some _ (sym q))
    go false y q = fails_before_first p xs i d (omega (arith, ltb-false (position_or_len p xs) (length xs) y))

-- which form a first field picks, from what was read of it
pub read_unnamed : (w : List ℕ) (xs : List (List ℕ)) → word_field w ≡ bad → read_by forms w xs ≡ NotRead
read_unnamed w xs e = read_none forms w xs (λ i h. word_bad i w h e)

pub read_unknown : (w : List ℕ) (xs : List (List ℕ)) (v : ℕ) → word_field w ≡ is v → position (λ name. eqb name v) call_names ≡ None → read_by forms w xs ≡ NotRead
unfolding call_names forms
read_unknown w xs v e h = read_none forms w xs (λ i l. word_no i w v l e (position-None (λ name. eqb name v) call_names i 0 h (omega arith)))

pub read_known : (w : List ℕ) (xs : List (List ℕ)) (v p : ℕ) → Bytes w → word_field w ≡ is v → position (λ name. eqb name v) call_names ≡ Some p
    → (p < calls) × (read_by forms w xs ≡ make_by (form_at p).make (read_fields (form_at p).kinds xs))
unfolding call_names forms
read_known w xs v p k e h =
    let f = position-Some (λ name. eqb name v) call_names p 0 h in
    (f.0, read_here forms p w xs f.0 (λ i l. word_no i w v (omega arith) e (f.2 i l)) (word_yes p w v f.0 k e f.1))
