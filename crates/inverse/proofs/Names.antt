-- A name of eight bytes and its text without the blanks on the right: each tells the other. Assumes nothing.
use Prim.Native.Nat.{ℕ, zero, suc, ◌+◌, ◌-◌, ◌*◌, ◌/◌, ◌%◌, ◌≤◌, ◌<◌}
use mathlib.Core.Bool.{Bool, true, false, not}
use mathlib.Core.List.{List, [], ◌∷◌, ◌++◌}
use mathlib.Core.Path.{◌≡◌, refl, sym, ap, ap₂, ◌∙◌}
use native.Mathlib.Nat.{sub-zero, suc-sub-suc}
use native.Mathlib.Omega.{arith}
use lib.Dec.{leb}
use lib.ListN.{length, get_or, replicate, length-append, length-replicate}
use borrow.Author.Tests.{leb-true, eqb-true, le-leb}
use Rattle.lists.specs.Choice.{both}
use Rattle.lists.proofs.Choice.{both_left, both_right, both_intro, both_no, not_to, yes!, no! }
use Rattle.model.specs.Lines.{is, name, spelt, no_blank, packed, packed_name, name_field}
use Rattle.model.specs.Names.{blank, blanks, name_bytes}
use Rattle.model.specs.Rewritten.{AllBytes}
use Rattle.model.specs.Written.{unpadded, name_text, one_field, takes_name, field_text, takes_field}
use Rattle.fields.proofs.Readings.{Bytes}
use Rattle.fields.proofs.Spelling.{spelt_is}
use Rattle.forms.specs.Sizes.{most_of}
use Rattle.forms.proofs.Sizes.{field_short}
use Rattle.lines.proofs.Words.{packed_same}
use Rattle.inverse.proofs.Throughout.{IsByte, all_append, all_cons, all_none, all_head, all_tail}

-- the blanks on the right taken away, and put back
blanks_are : (l : List ℕ) → blanks l ≡ true → l ≡ replicate (length l) 32
unfolding blanks
blanks_are [] y = refl
blanks_are (b ∷ l) y = ap₂ ◌∷◌ (eqb-true b 32 (both_left (blank b) (blanks l) y)) (blanks_are l (both_right (blank b) (blanks l) y))

padded_back : (l : List ℕ) → unpadded l ++ replicate (length l - length (unpadded l)) 32 ≡ l
unfolding unpadded
padded_back [] = refl
padded_back (b ∷ l) = go (blanks (b ∷ l)) refl (padded_back l)
  where
    go : (t : Bool) → blanks (b ∷ l) ≡ t → unpadded l ++ replicate (length l - length (unpadded l)) 32 ≡ l
        → unpadded (b ∷ l) ++ replicate (length (b ∷ l) - length (unpadded (b ∷ l))) 32 ≡ b ∷ l
    go true y i = let e : unpadded (b ∷ l) ≡ [] = yes! _ _ y in rw (e, sub-zero) (sym (blanks_are (b ∷ l) y))
    go false y i = let e : unpadded (b ∷ l) ≡ b ∷ unpadded l = no! _ _ y in rw (e, suc-sub-suc) (ap (λ x. b ∷ x) i)

are_blank : (n : ℕ) → blanks (replicate n 32) ≡ true
unfolding blanks
are_blank zero = refl
are_blank (suc n) = both_intro (blank 32) _ refl (are_blank n)

all_blank : (n : ℕ) → unpadded (replicate n 32) ≡ []
unfolding unpadded
all_blank zero = refl
all_blank (suc n) = yes! _ _ (are_blank (suc n))

text_back : (f : List ℕ) (n : ℕ) → no_blank f ≡ true → unpadded (f ++ replicate n 32) ≡ f
unfolding no_blank unpadded blanks
text_back [] n y = all_blank n
text_back (b ∷ f) n y =
    no! _ _ (both_no _ (not_to (blank b) (both_left (not (blank b)) (no_blank f) y)))
    ∙ ap (λ x. b ∷ x) (text_back f n (both_right (not (blank b)) (no_blank f) y))

-- eight bytes packed are the number
packed_bytes : (n : ℕ) → packed 0 (name_bytes n) ≡ n
unfolding packed name_bytes
packed_bytes n =
    let a : (0 * 256 + n / 72057594037927936) * 256 + n / 281474976710656 % 256 ≡ n / 281474976710656 = omega arith in
    let b : n / 281474976710656 * 256 + n / 1099511627776 % 256 ≡ n / 1099511627776 = omega arith in
    let c : n / 1099511627776 * 256 + n / 4294967296 % 256 ≡ n / 4294967296 = omega arith in
    let d : n / 4294967296 * 256 + n / 16777216 % 256 ≡ n / 16777216 = omega arith in
    let e : n / 16777216 * 256 + n / 65536 % 256 ≡ n / 65536 = omega arith in
    let f : n / 65536 * 256 + n / 256 % 256 ≡ n / 256 = omega arith in
    rw (a, b, c, d, e, f) (omega arith)

name_packed : (n : ℕ) → packed_name (name_text n) ≡ n
unfolding packed_name name_bytes
name_packed n = ap (packed 0) (padded_back (name_bytes n)) ∙ packed_bytes n

-- a list of bytes, at every place: past its end stand zeros
bytes_of : (l : List ℕ) → AllBytes l → Bytes l
bytes_of [] k = record { byte = λ i. omega arith }
bytes_of (b ∷ l) k = record { byte = go (bytes_of l (all_tail IsByte b l k)) }
  where
    go : Bytes l → (i : ℕ) → get_or (b ∷ l) i 0 < 256
    go r zero = all_head IsByte b l k
    go r (suc i) = r.byte i

-- the bytes after the first are such
lows : List ℕ → List ℕ
lows [] = []
lows (m ∷ l) = m % 256 ∷ lows l

lows_byte : (l : List ℕ) (i : ℕ) → get_or (lows l) i 0 < 256
unfolding lows
lows_byte [] i = omega arith
lows_byte (m ∷ l) zero = omega arith
lows_byte (m ∷ l) (suc i) = lows_byte l i

abbrev shifts : ℕ → List ℕ
shifts n = n / 281474976710656 ∷ n / 1099511627776 ∷ n / 4294967296 ∷ n / 16777216 ∷ n / 65536 ∷ n / 256 ∷ n ∷ []

-- and packed in one way only
bytes_back : (l : List ℕ) → length l ≡ 8 → AllBytes l → name_bytes (packed 0 l) ≡ l
unfolding name_bytes packed lows
bytes_back [] len k = absurd (omega arith)
bytes_back (b ∷ l) len k =
    let n = packed (0 * 256 + b) l in
    let x = lows (shifts n) in
    let k₁ : Bytes x = record { byte = lows_byte (shifts n) } in
    let k₂ = bytes_of l (all_tail IsByte b l k) in
    let r = packed_same (0 * 256 + n / 72057594037927936) (0 * 256 + b) x l (omega arith) k₁ k₂ (packed_bytes n) in
    ap₂ ◌∷◌ (omega (arith, r.0)) r.1

blank_bytes : (n : ℕ) → AllBytes (replicate n 32)
blank_bytes zero = all_none IsByte
blank_bytes (suc n) = all_cons IsByte 32 (replicate n 32) (omega arith) (blank_bytes n)

spelt_as : (t : Bool) (m n : ℕ) → t ≡ true → m ≡ n → spelt t m ≡ is n
unfolding spelt
spelt_as t m n y e = rw (y, e)

-- a name field as it was read
pub record Spells (f : List ℕ) (n : ℕ) : Type 0 where
  pub least : 1 ≤ length f
  pub unblank : no_blank f ≡ true
  pub back : name_text n ≡ f

pub name_back : (f : List ℕ) (n : ℕ) → AllBytes f → name_field f ≡ is n → Spells f n
unfolding name_field packed_name
name_back f n k e =
    let s = spelt_is _ _ n e in
    let t = both_left (both (leb 1 (length f)) (leb (length f) 8)) (no_blank f) s.0 in
    let u = both_right (both (leb 1 (length f)) (leb (length f) 8)) (no_blank f) s.0 in
    let m = leb-true (length f) 8 (both_right (leb 1 (length f)) _ t) in
    let p : List ℕ = replicate (8 - length f) 32 in
    let b = all_append IsByte f p k (blank_bytes (8 - length f)) in
    let len : length (f ++ p) ≡ 8 = omega (arith, length-append f p, length-replicate {A = ℕ} (8 - length f) 32) in
    record {
      least = leb-true 1 (length f) (both_left _ _ t);
      unblank = u;
      back = ap name_text (sym s.1) ∙ ap unpadded (bytes_back (f ++ p) len b) ∙ text_back f (8 - length f) u;
    }

-- a name that the writer takes is read
pub name_reads : (n : ℕ) → takes_name n ≡ true → name_field (name_text n) ≡ is n
unfolding name_field field_text takes_field most_of
name_reads n y =
    let t = both_left (both (leb 1 (length (name_text n))) (no_blank (name_text n))) (one_field (name_text n)) y in
    let l = le-leb (length (name_text n)) 8 (field_short name n [] y) in
    spelt_as _ _ n (both_intro _ _ (both_intro _ _ (both_left _ _ t) l) (both_right _ _ t)) (name_packed n)
