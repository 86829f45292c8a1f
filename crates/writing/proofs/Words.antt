-- The table of names holds the words of the forms. Assumes nothing.
use Prim.Native.Nat.{ℕ, zero, suc, ◌<◌}
use mathlib.Core.List.{List, [], ◌∷◌, map, ◌++◌}
use mathlib.Core.Path.{◌≡◌, refl, ap, ◌∙◌, subst}
use native.Mathlib.Omega.{arith}
use lib.ListN.{length, get_or}
use Rattle.lists.specs.Choice.{choose}
use Rattle.model.specs.Lines.{Form, forms, calls, no_form, form_at, packed}
use Rattle.model.specs.Names.{name_bytes}
use Rattle.model.specs.Places.{EachForm, end, and}
use Rattle.forms.specs.Tables.{call_names}
use Rattle.letters.specs.Words.{after_first, word_text}
use Rattle.digits.specs.declared.Text.{Text}
use Rattle.digits.specs.Wrote.{HasRoom, Adds}
use Rattle.digits.proofs.Writing.{adds_more}
use Rattle.forms.specs.Sizes.{most_in, most_bytes}
use Rattle.forms.proofs.Sizes.{form_short}

abbrev Spelt : Form → Type 0
Spelt f = word_text (packed 1 f.word) ≡ f.word

each_spelt : EachForm Spelt forms
unfolding forms packed after_first name_bytes choose
each_spelt = search (end, and, refl) depth 40

spelt_at : (fs : List Form) → EachForm Spelt fs → (p : ℕ) → p < length fs → word_text (get_or (map (λ f. packed 1 f.word) fs) p 0) ≡ (get_or fs p no_form).word
spelt_at [] e p h = absurd (omega arith)
spelt_at (f ∷ fs) (and s e) zero h = s
spelt_at (f ∷ fs) (and s e) (suc p) h = spelt_at fs e p (omega arith)

word_at : (names : List ℕ) (p : ℕ) → names ≡ call_names → p < calls → word_text (get_or names p 0) ≡ (form_at p).word
unfolding call_names
word_at names p e h = ap (λ l. word_text (get_or l p 0)) e ∙ spelt_at forms each_spelt p h

-- a word, and there is room for the fields behind it
module _ (names : List ℕ) (p : ℕ) (e : names ≡ call_names) (h : p < calls) {t u : Text} (w : Adds t (word_text (get_or names p 0)) u) where
  pub word_room : HasRoom t most_bytes → HasRoom u (most_in (form_at p).kinds)
  word_room l = omega (arith, form_short p h, ap length (word_at names p e h), w.wrote.place, w.as_long)

  pub word_then : {v : Text} {s : List ℕ} → Adds u s v → Adds t ((form_at p).word ++ s) v
  word_then {v} {s} a = subst (λ x. Adds t (x ++ s) v) (word_at names p e h) (adds_more w a)
