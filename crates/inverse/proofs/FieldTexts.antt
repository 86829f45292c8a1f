-- A field's text, by its kind: it can stand in a line, and it spells its value; and a value that a field spells has that
-- field for its text. Assumes nothing.
use Prim.Native.Nat.{ℕ, zero, suc, ◌+◌, ◌/◌, ◌%◌, ◌≤◌, ◌<◌}
use mathlib.Core.Bool.{Bool, true, false}
use mathlib.Core.List.{List, [], ◌∷◌}
use mathlib.Core.Path.{◌≡◌, refl, ap, ◌∙◌}
use native.Mathlib.Omega.{arith}
use lib.Dec.{eqb, leb, ltb}
use lib.ListN.{length, take, length-take}
use lib.Seq.{get_or-take}
use borrow.Author.Tests.{leb-true, le-leb, ne_eqb, eqb-true}
use Rattle.lists.specs.Choice.{both, either, choose}
use Rattle.lists.specs.Text.{bytes}
use Rattle.lists.proofs.Choice.{both_left, both_right, both_intro, choose_elim}
use Rattle.model.specs.Lines.{is, hex_bytes, right_field, FieldKind, number, name, right, hex, field_of}
use Rattle.model.specs.Rewritten.{AllBytes}
use Rattle.model.specs.Session.{decimal_by, decimal, hex_letter, hex_text}
use Rattle.model.specs.Written.{right_text, one_field, field_text, takes_field}
use Rattle.digits.proofs.ReadsBack.{number_read, field_read}
use Rattle.inverse.proofs.Throughout.{Throughout, all_none, all_cons, all_append, all_head, all_tail}
use Rattle.inverse.proofs.Cutting.{One, one_cons, Fine}
use Rattle.inverse.proofs.Numbers.{number_back}
use Rattle.inverse.proofs.Names.{name_back, name_reads}
use Rattle.inverse.proofs.Hexes.{hex_back}

-- digits and letters lie above tab and newline, also those of numbers past their limits
abbrev High : ℕ → Type 0
High b = 48 ≤ b

high_one : (l : List ℕ) → Throughout High l → One l
unfolding one_field
high_one [] h = refl
high_one (b ∷ l) h =
    let a = all_head High b l h in
    one_cons b l (ne_eqb b 9 (λ e. omega arith)) (ne_eqb b 10 (λ e. omega arith)) (high_one l (all_tail High b l h))

decimal_high : (k n : ℕ) → Throughout High (decimal_by k n)
unfolding decimal_by
decimal_high zero n = all_none High
decimal_high (suc k) n =
    choose_elim (Throughout High) (ltb n 10) _ _
    (λ _. all_cons High (48 + n) [] (omega arith) (all_none High))
    (λ _. all_append High (decimal_by k (n / 10)) _ (decimal_high k (n / 10)) (all_cons High (48 + n % 10) [] (omega arith) (all_none High)))

letter_high : (n : ℕ) → 48 ≤ hex_letter n
unfolding hex_letter
letter_high n = choose_elim High (ltb n 10) (48 + n) (55 + n) (λ _. omega arith) (λ _. omega arith)

hex_high : (l : List ℕ) → Throughout High (hex_text l)
unfolding hex_text
hex_high [] = all_none High
hex_high (b ∷ l) =
    all_cons High (hex_letter (b / 16)) (hex_letter (b % 16) ∷ hex_text l) (letter_high (b / 16))
    (all_cons High (hex_letter (b % 16)) (hex_text l) (letter_high (b % 16)) (hex_high l))

right_one : (v : ℕ) → One (right_text v)
unfolding right_text one_field both either
right_one v = choose_elim One (eqb v 0) (bytes "R") (bytes "W") (λ _. refl) (λ _. refl)

pub text_one : (k : FieldKind) (v : ℕ) (d : List ℕ) → takes_field k v d ≡ true → One (field_text k v d)
unfolding field_text takes_field
text_one number v d y = high_one (decimal v) (decimal_high 20 v)
text_one name v d y = both_right _ _ y
text_one right v d y = right_one v
text_one hex v d y = high_one (hex_text (take v d)) (hex_high (take v d))

-- The values of 32 bits and of rights
abbrev pub Narrowed : FieldKind → ℕ → Type 0
Narrowed number v = v ≤ 4294967295
Narrowed name v = Unit {0}
Narrowed right v = v ≤ 1
Narrowed hex v = Unit {0}

right_reads : (v : ℕ) → v ≤ 1 → right_field (right_text v) ≡ is v
unfolding right_field right_text choose
right_reads zero h = refl
right_reads (suc zero) h = refl
right_reads (suc (suc v)) h = absurd (omega arith)

pub take_bytes : (v : ℕ) (d : List ℕ) → AllBytes d → AllBytes (take v d)
take_bytes v d k i h =
    let n : i < v = omega (arith, length-take v d) in
    rw (get_or-take v d i 0 n) (k i (omega (arith, length-take v d)))

hex_reads : (v : ℕ) (d : List ℕ) → AllBytes d → takes_field hex v d ≡ true → field_of hex (hex_text (take v d)) ≡ is v
unfolding takes_field field_of
hex_reads v d k y =
    let m = leb-true v 257 (both_left _ _ y) in
    let n = leb-true v (length d) (both_right (leb v 257) _ y) in
    let e : length (take v d) ≡ v = omega (arith, length-take v d) in
    field_read (take v d) (take_bytes v d k) (omega arith) ∙ ap is e

pub text_reads : (k : FieldKind) (v : ℕ) (d : List ℕ) → AllBytes d → Narrowed k v → takes_field k v d ≡ true
    → field_of k (field_text k v d) ≡ is v
unfolding field_text takes_field field_of
text_reads number v d k n y = number_read v n
text_reads name v d k n y = name_reads v y
text_reads right v d k n y = right_reads v n
text_reads hex v d k n y = hex_reads v d k y

-- and back. Data stand beside the values: they are those of the data field.
abbrev pub Holds : FieldKind → (field lent : List ℕ) → Type 0
Holds number f d = Unit {0}
Holds name f d = Unit {0}
Holds right f d = Unit {0}
Holds hex f d = d ≡ hex_bytes f

pub right_back : (f : List ℕ) (v : ℕ) → right_field f ≡ is v → (right_text v ≡ f) × (v ≤ 1)
unfolding right_field right_text choose
right_back [] v e = let z : ◌≡◌ {A = ℕ} 0 1 = cc in absurd (omega arith)
right_back (b ∷ []) v e = go (eqb b 82) refl (eqb b 87) refl
  where
    go : (r : Bool) → eqb b 82 ≡ r → (w : Bool) → eqb b 87 ≡ w → (right_text v ≡ b ∷ []) × (v ≤ 1)
    go true r w q =
        let p : v ≡ 0 = cc in
        (rw (p, eqb-true b 82 r), omega arith)
    go false r true w =
        let p : v ≡ 1 = cc in
        (rw (p, eqb-true b 87 w), omega arith)
    go false r false w = let z : ◌≡◌ {A = ℕ} 0 1 = cc in absurd (omega arith)
right_back (b ∷ c ∷ f) v e = let z : ◌≡◌ {A = ℕ} 0 1 = cc in absurd (omega arith)

pub record Backs (k : FieldKind) (f : List ℕ) (v : ℕ) (d : List ℕ) : Type 0 where
  pub taken : takes_field k v d ≡ true
  pub text : field_text k v d ≡ f

pub text_back : (k : FieldKind) (f : List ℕ) (v : ℕ) (d : List ℕ) → Fine f → Holds k f d → field_of k f ≡ is v → Backs k f v d
unfolding field_text takes_field field_of
text_back number f v d i h e = record { taken = refl; text = number_back f v e }
text_back name f v d i h e =
    let s = name_back f v i.bytes e in
    record {
      taken = rw s.back (both_intro _ _ (both_intro _ _ (le-leb 1 (length f) s.least) s.unblank) i.one);
      text = s.back;
    }
text_back right f v d i h e = record { taken = refl; text = (right_back f v e).0 }
text_back hex f v d i h e =
    let s = hex_back f v e in
    record {
      taken = both_intro _ _ (le-leb v 257 s.most) (le-leb v (length d) (omega (arith, ap length h, s.count)));
      text = ap (λ x. hex_text (take v x)) h ∙ s.back;
    }
