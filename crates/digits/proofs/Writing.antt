-- Laws of texts written one after another. Assumes nothing.
use Prim.Native.Nat.{ℕ, ◌+◌, ◌-◌, ◌≤◌, ◌<◌}
use mathlib.Core.List.{List, [], ◌∷◌, ◌++◌, append_assoc}
use mathlib.Core.Path.{◌≡◌, refl, sym, ap, ◌∙◌}
use native.Mathlib.Numerals.{add-one}
use native.Mathlib.Omega.{arith}
use lib.ListN.{length, set, take, drop, length-append, take-append-drop}
use lib.Seq.{length-take-le, take_at, drop_at, drop-drop, set_split, take-append-le, take-take}
use Rattle.lists.specs.Bytes.{over}
use Rattle.lists.proofs.Bytes.{length-over}
use Rattle.digits.specs.declared.Text.{Text}
use Rattle.digits.specs.Wrote.{Wrote, Adds}

module _ {A : Type 0} where
  -- y written right after x
  over_over : (l : List A) (p : ℕ) (x y : List A) → p ≤ length l → over (over l p x) (p + length x) y ≡ over l p (x ++ y)
  unfolding over
  over_over l p x y h =
      let n : length (take p l ++ x) ≡ p + length x = rw (length-append, length-take-le p l h) in
      let e : over l p x ≡ (take p l ++ x) ++ drop (p + length x) l = sym (append_assoc (take p l) x (drop (p + length x) l)) in
      let f : take (p + length x) (over l p x) ≡ take p l ++ x = rw e (take_at (take p l ++ x) (drop (p + length x) l) (p + length x) n) in
      let g : drop (p + length x) (over l p x) ≡ drop (p + length x) l = rw e (drop_at (take p l ++ x) (drop (p + length x) l) (p + length x) n) in
      let k : p + length x + length y ≡ p + (length x + length y) = omega arith in
      let d : drop (p + length x + length y) (over l p x) ≡ drop (p + (length x + length y)) l =
      sym (drop-drop (length y) (p + length x) (over l p x)) ∙ ap (drop (length y)) g ∙ drop-drop (length y) (p + length x) l
      ∙ ap (λ j. drop j l) k in
      rw (f, d, length-append) (simp append_assoc)

  -- nothing, and one element, written
  pub over_none : (l : List A) (p : ℕ) → l ≡ over l p []
  unfolding over
  over_none l p = let e : p + 0 ≡ p = omega arith in rw e (sym (take-append-drop p l))

  over_one : (l : List A) (p : ℕ) (v : A) → p < length l → set l p v ≡ over l p (v ∷ [])
  unfolding over
  over_one l p v h = set_split l p v h ∙ ap (λ j. take p l ++ (v ∷ drop j l)) (sym (add-one p))

  -- a part of the list, where y stands now
  over_mid : (l x y : List A) (p : ℕ) → y ≡ x → take p l ++ (y ++ drop (p + length x - p) (drop p l)) ≡ over l p x
  unfolding over
  over_mid l x y p e =
      let n : p + length x - p + p ≡ p + length x = omega arith in
      rw (e, drop-drop) (ap (λ j. take p l ++ (x ++ drop j l)) (omega arith))

  -- one element written right before x
  pub over_before_one : (l : List A) (p : ℕ) (v : A) (x : List A) → p < length l → set (over l (p + 1) x) p v ≡ over l p (v ∷ x)
  unfolding over
  over_before_one l p v x h =
      let r = x ++ drop (p + 1 + length x) l in
      let n : length (take (p + 1) l) ≡ p + 1 = length-take-le (p + 1) l (omega arith) in
      let f : take p (over l (p + 1) x) ≡ take p l = take-append-le p (take (p + 1) l) r (omega arith) ∙ take-take p (p + 1) l (omega arith) in
      let g : drop (p + 1) (over l (p + 1) x) ≡ r = drop_at (take (p + 1) l) r (p + 1) n in
      let k : p + 1 + length x ≡ p + length (v ∷ x) = omega arith in
      set_split (over l (p + 1) x) p v (omega (arith, length-append (take (p + 1) l) r))
      ∙ rw (← add-one p, f, g) (ap (λ j. take p l ++ (v ∷ (x ++ drop j l))) k)

pub wrote_none : (o : List ℕ) (a : ℕ) → a ≤ length o → Wrote o a [] o a
wrote_none o a h = record { room = omega arith; place = omega arith; bytes = over_none o a }

pub wrote_one : (o : List ℕ) (a v : ℕ) → a < length o → Wrote o a (v ∷ []) (set o a v) (a + 1)
wrote_one o a v h = record { room = omega arith; place = omega arith; bytes = over_one o a v h }

pub wrote_long : {o o₁ s : List ℕ} {a b : ℕ} → Wrote o a s o₁ b → length o₁ ≡ length o
wrote_long {o} {o₁} {s} {a} w = ap length w.bytes ∙ length-over o a s w.room

-- a text after a text
pub wrote_more : {o o₁ o₂ s t : List ℕ} {a b c : ℕ} → Wrote o a s o₁ b → Wrote o₁ b t o₂ c → Wrote o a (s ++ t) o₂ c
wrote_more {o} {o₁} {o₂} {s} {t} {a} {b} {c} v w =
    let n : length (s ++ t) ≡ length s + length t = length-append s t in
    record {
      room = omega (arith, n, wrote_long v, v.place, w.room);
      place = omega (arith, n, v.place, w.place);
      bytes = w.bytes ∙ rw (v.bytes, v.place) (over_over o a s t (omega (arith, v.room)));
    }

-- a text that goes on
pub adds : {t u : Text} {s : List ℕ} → u.out.ghost_name ≡ t.out.ghost_name → Wrote t.out.now t.at s u.out.now u.at → Adds t s u
adds e w = record { same_room = e; as_long = wrote_long w; wrote = w }

pub adds_more : {t u v : Text} {s r : List ℕ} → Adds t s u → Adds u r v → Adds t (s ++ r) v
adds_more a b = adds (b.same_room ∙ a.same_room) (wrote_more a.wrote b.wrote)

pub wrote_part : (o x y : List ℕ) (a : ℕ) → a + length x ≤ length o → y ≡ x → Wrote o a x (take a o ++ (y ++ drop (a + length x - a) (drop a o))) (a + length x)
wrote_part o x y a h e = record { room = h; place = refl; bytes = over_mid o x y a e }
