-- The fields of a line are gone through one by one: what is taken or written of the kinds and the values that are left. Assumes
-- nothing.
use Prim.Native.Nat.{ℕ, ◌+◌}
use mathlib.Core.Bool.{Bool, true, false}
use mathlib.Core.List.{List, [], ◌∷◌, ◌++◌, map, append-nil, append_assoc}
use mathlib.Core.Path.{◌≡◌, refl, sym, ap, ap₂, ◌∙◌}
use native.Mathlib.Omega.{arith}
use lib.ListN.{length}
use Rattle.lists.proofs.Choice.{true_false, both_yes, both_no, both_left, both_right}
use Rattle.lists.proofs.Parts.{no_elements}
use Rattle.model.specs.Written.{field_text, field_texts, tabbed, takes_field, takes_fields}
use Rattle.digits.specs.declared.Text.{Text}
use Rattle.digits.specs.Wrote.{HasRoom, Adds}
use Rattle.digits.proofs.Writing.{adds, adds_more, wrote_none}
use Rattle.fields.specs.declared.Kind.{Kind}
use Rattle.fields.specs.Fields.{kind_of}
use Rattle.forms.specs.Sizes.{most_of, most_in}
use Rattle.forms.proofs.Sizes.{field_short}

abbrev taken : List Kind → (values lent : List ℕ) → Bool
taken ks vs d = takes_fields (map kind_of ks) vs d

abbrev texts : List Kind → (values lent : List ℕ) → List ℕ
texts ks vs d = tabbed (field_texts (map kind_of ks) vs d)

abbrev most : List Kind → ℕ
most ks = most_in (map kind_of ks)

-- whether the fields are taken: one more, and none left
module _ (w : Bool) (d : List ℕ) (ks : List Kind) (vs : List ℕ) (same : w ≡ taken ks vs d) where
  module _ (k : Kind) (v : ℕ) (ks' : List Kind) (vs' : List ℕ) (e : ks ≡ k ∷ ks') (f : vs ≡ v ∷ vs') {r : Bool} (is : r ≡ takes_field (kind_of k) v d) where
    pub taking_stop : r ≡ false → false ≡ w
    unfolding takes_fields
    taking_stop z = sym (same ∙ ap₂ (λ x y. taken x y d) e f ∙ both_no _ (sym is ∙ z))

    pub taking_more : r ≡ true → w ≡ taken ks' vs' d
    unfolding takes_fields
    taking_more y = same ∙ ap₂ (λ x y. taken x y d) e f ∙ both_yes _ (sym is ∙ y)

  pub taking_end : length ks ≡ 0 → true ≡ w
  unfolding takes_fields
  taking_end z = sym (same ∙ ap (λ x. taken x vs d) (no_elements ks z))

-- Of the fields' texts some are written, and there is room for those of the kinds and the values that are left.
pub record Putting (before : Text) (all : List Kind) (values d : List ℕ) (now : Text) (ks : List Kind) (vs : List ℕ) : Type 0 where
  pub written : List ℕ
  pub whole : texts all values d ≡ written ++ texts ks vs d
  pub adds : Adds before written now
  pub room : HasRoom now (most ks)
  pub takes : taken ks vs d ≡ true

pub putting_start : (t : Text) (all ks : List Kind) (values vs d : List ℕ) → ks ≡ all → vs ≡ values → HasRoom t (most all) → taken all values d ≡ true → Putting t all values d t ks vs
putting_start t all ks values vs d e f room takes =
    rw (e, f) (record { written = []; whole = refl; adds = adds refl (wrote_none _ _ (omega arith)); room = room; takes = takes })

module _ {t : Text} {all : List Kind} {values d : List ℕ} {u : Text} {ks : List Kind} {vs : List ℕ} (p : Putting t all values d u ks vs) where
  module _ (k : Kind) (v : ℕ) (ks' : List Kind) (vs' : List ℕ) (e : ks ≡ k ∷ ks') (f : vs ≡ v ∷ vs') where
    first_taken : taken (k ∷ ks') (v ∷ vs') d ≡ true
    first_taken = sym (ap₂ (λ x y. taken x y d) e f) ∙ p.takes

    pub putting_takes : takes_field (kind_of k) v d ≡ true
    unfolding takes_fields
    putting_takes = both_left _ _ first_taken

    most_first : most ks ≡ 1 + most_of (kind_of k) + most ks'
    unfolding most_in
    most_first = ap most e

    pub putting_room : HasRoom u (1 + most_of (kind_of k))
    putting_room = omega (arith, p.room, most_first)

    pub putting_more : (u' : Text) → Adds u (9 ∷ field_text (kind_of k) v d) u' → Putting t all values d u' ks' vs'
    unfolding field_texts tabbed takes_fields
    putting_more u' a =
        let one = field_text (kind_of k) v d in
        let short = field_short (kind_of k) v d putting_takes in
        record {
          written = p.written ++ (9 ∷ one);
          whole = p.whole ∙ ap (λ x. p.written ++ x) (ap₂ (λ x y. texts x y d) e f) ∙ sym (append_assoc p.written (9 ∷ one) (texts ks' vs' d));
          adds = adds_more p.adds a;
          room = omega (arith, p.room, most_first, short, a.as_long, a.wrote.place);
          takes = both_right _ _ first_taken;
        }

  -- where no value is left, no kind is
  pub putting_few : length vs ≡ 0 → length ks ≡ 0
  unfolding takes_fields
  putting_few z = go ks (sym (ap (λ y. taken ks y d) (no_elements vs z)) ∙ p.takes)
    where
      go : (ks : List Kind) → taken ks [] d ≡ true → length ks ≡ 0
      go [] e = refl
      go (k ∷ ks) e = true_false e refl

  pub putting_end : length ks ≡ 0 → Adds t (texts all values d) u
  unfolding field_texts tabbed
  putting_end z =
      let e : texts all values d ≡ p.written = p.whole ∙ ap (λ x. p.written ++ texts x vs d) (no_elements ks z) ∙ append-nil p.written in
      rw e p.adds
