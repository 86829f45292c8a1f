-- The test of a name is true exactly for a padded text of the paper's form. Assumes nothing.
use Prim.Native.Nat.{ℕ, zero, suc, ◌+◌, ◌-◌, ◌≤◌, ◌<◌}
use mathlib.Core.Bool.{Bool, true}
use mathlib.Core.List.{List, [], ◌∷◌, ◌++◌}
use mathlib.Core.Logic.{◌⊎◌, inl, inr, ⊎_elim}
use mathlib.Core.Path.{◌≡◌, refl, sym, ap, ap₂, ◌∙◌}
use native.Mathlib.Omega.{arith}
use lib.ListN.{length, get_or, replicate, length-append, length-replicate}
use Rattle.lists.specs.Choice.{both, either, choose}
use Rattle.lists.specs.Decides.{Decides}
use Rattle.lists.proofs.Choice.{true_or_false, not_so, yes!, no! }
use Rattle.lists.proofs.Decides.{d_le, d_eq, d_both, d_either, d_map}
use Rattle.model.specs.NameText.{Letter, Digit, PaddedText, NameText}
use Rattle.model.specs.Names.{letter, digit, blanks, name_rest, name_form, name_bytes, good_name, base_name}

pub base_name_lem : name_bytes base_name ≡ 66 ∷ 65 ∷ 83 ∷ 69 ∷ 32 ∷ 32 ∷ 32 ∷ 32 ∷ []
unfolding name_bytes
base_name_lem = refl

pub base_good : good_name base_name ≡ true
unfolding good_name name_form name_rest blanks name_bytes both either choose
base_good = refl

d_letter : (b : ℕ) → Decides (letter b) (Letter b)
d_letter b = d_both (d_le 65 b) (d_le b 90)

-- a byte after the first
abbrev Later : ℕ → Type 0
Later b = Letter b ⊎ Digit b

d_later : (b : ℕ) → Decides (either (letter b) (digit b)) (Later b)
d_later b = d_either (d_letter b) (d_both (d_le 48 b) (d_le b 57))

-- a choice whose second side excludes its test
d_first : {t a b : Bool} {T P Q : Type 0} → Decides t T → Decides a P → Decides b Q → (T → Q → ⊥) → Decides (choose t a b) ((T × P) ⊎ Q)
d_first {t} {a} {b} d p q apart = record {
  to = λ e. ⊎_elim (λ y. inl (d.to y, p.to (rw (yes! a b y) at e))) (λ n. inr (q.to (rw (no! a b n) at e))) (true_or_false t);
  of = λ h. ⊎_elim (λ x. yes! a b (d.of x.0) ∙ p.of x.1) (λ y. no! a b (not_so t (λ e. apart (d.to e) y)) ∙ q.of y) h;
}

blanks_decides : (bs : List ℕ) → Decides (blanks bs) (bs ≡ replicate (length bs) 32)
unfolding blanks
blanks_decides [] = record { to = λ _. refl; of = λ _. refl }
blanks_decides (b ∷ bs) = d_map (λ h. ap₂ ◌∷◌ h.0 h.1) (λ e. (cc, cc)) (d_both (d_eq b 32) (blanks_decides bs))

-- every byte is one that may stand after the first
abbrev Laters : List ℕ → Type 0
Laters t = (i : ℕ) → i < length t → Later (get_or t i 0)

later_cons : (b : ℕ) (t : List ℕ) → Later b → Laters t → Laters (b ∷ t)
later_cons b t l m zero h = l
later_cons b t l m (suc i) h = m i (omega arith)

-- what may stand after the first byte: letters and digits, then blanks
record Tail (bs : List ℕ) : Type 0 where
  text : List ℕ
  later : Laters text
  count : ℕ
  form : bs ≡ text ++ replicate count 32

only_blanks : (bs : List ℕ) → bs ≡ replicate (length bs) 32 → Tail bs
only_blanks bs e = record { text = []; later = λ i l. absurd (omega arith); count = length bs; form = e }

-- such bytes go on with a letter or digit, or are blank
module _ (b : ℕ) (bs : List ℕ) where
  abbrev Blank : Type 0
  Blank = b ∷ bs ≡ replicate (length (b ∷ bs)) 32

  tail_of : (Later b × Tail bs) ⊎ Blank → Tail (b ∷ bs)
  tail_of (inl (l, w)) = record {
    text = b ∷ w.text;
    later = later_cons b w.text l w.later;
    count = w.count;
    form = ap (λ x. b ∷ x) w.form;
  }
  tail_of (inr e) = only_blanks (b ∷ bs) e

  tail_to : Tail (b ∷ bs) → (Later b × Tail bs) ⊎ Blank
  tail_to w = go w.text w.later w.form
    where
      go : (t : List ℕ) → Laters t → b ∷ bs ≡ t ++ replicate w.count 32 → (Later b × Tail bs) ⊎ Blank
      go [] l e = inr (e ∙ ap (λ n. replicate n 32) (sym (ap length e ∙ length-replicate w.count 32)))
      go (c ∷ t) l e =
          let q : c ≡ b = cc in
          inl (rw q at (l 0 (omega arith)), record { text = t; later = λ i h. l (suc i) (omega arith); count = w.count; form = cc })

  -- a blank is no letter and no digit
  blank_ends : Later b → Blank → ⊥
  blank_ends (inl h) e = let z : b ≡ 32 = cc in omega arith
  blank_ends (inr h) e = let z : b ≡ 32 = cc in omega arith

tail_decides : (bs : List ℕ) → Decides (name_rest bs) (Tail bs)
unfolding name_rest
tail_decides [] = record { to = λ _. only_blanks [] refl; of = λ _. refl }
tail_decides (b ∷ bs) = d_map (tail_of b bs) (tail_to b bs) (d_first (d_later b) (tail_decides bs) (blanks_decides (b ∷ bs)) (blank_ends b bs))

form_decides : (bs : List ℕ) → length bs ≡ 8 → Decides (name_form bs) (PaddedText bs)
unfolding name_form
form_decides [] len = absurd (omega arith)
form_decides (b ∷ bs) len = d_map to (λ w. of w.text w.shortest w.first w.later w.padded) (d_both (d_letter b) (tail_decides bs))
  where
    to : Letter b × Tail bs → PaddedText (b ∷ bs)
    to (l, w) =
        let size : length bs ≡ length w.text + w.count = ap length w.form ∙ simp (length-append, length-replicate) in
        let rest : w.count ≡ 8 - length (b ∷ w.text) = omega arith in
        record {
          text = b ∷ w.text;
          shortest = omega arith;
          longest = omega arith;
          first = l;
          later = λ i _ h. later_cons b w.text (inl l) w.later i h;
          padded = ap (λ x. b ∷ x) (w.form ∙ ap (λ n. w.text ++ replicate n 32) rest);
        }

    of : (t : List ℕ) → 1 ≤ length t → Letter (get_or t 0 0) → ((i : ℕ) → 1 ≤ i → i < length t → Later (get_or t i 0)) → b ∷ bs ≡ t ++ replicate (8 - length t) 32 → Letter b × Tail bs
    of [] s l m e = absurd (omega arith)
    of (c ∷ t) s l m e =
        let q : c ≡ b = cc in
        (rw q at l, record { text = t; later = λ i h. m (suc i) (omega arith) (omega arith); count = 8 - length (c ∷ t); form = cc })

pub name_decides : (n : ℕ) → Decides (good_name n) (NameText n)
unfolding good_name name_bytes
name_decides n = form_decides (name_bytes n) refl
