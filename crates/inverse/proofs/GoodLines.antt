-- The program `rewrite` gives the good lines of its input, as they are, and no others. Assumes nothing.
use Prim.Native.Nat.{ℕ}
use mathlib.Core.List.{List, [], ◌∷◌, ◌++◌}
use mathlib.Core.Path.{◌≡◌, refl, ap, ap₂, ◌∙◌}
use native.Mathlib.Omega.{arith}
use lib.Dec.{eqb}
use lib.ListN.{length}
use Rattle.lists.specs.Choice.{both}
use Rattle.lists.specs.Text.{bytes}
use Rattle.lists.proofs.Choice.{yes!, no!, choose_elim}
use Rattle.model.specs.declared.Request.{Request}
use Rattle.model.specs.declared.Request.TheVariants.{Frames, Call, NotRead}
use Rattle.model.specs.Lines.{forms, read_line}
use Rattle.model.specs.Parts.{parts_of}
use Rattle.model.specs.Rewritten.{AllBytes, NoNewline, rewritten, rewritten_lines, rewritten_text, good_line, good_lines, RewritesGoodLines}
use Rattle.model.specs.Session.{lines_from}
use Rattle.model.specs.Written.{takes}
use Rattle.inverse.proofs.Cutting.{Each, none, and}
use Rattle.inverse.proofs.Throughout.{IsByte, NotNewline, all_none, all_cons, all_head, all_tail, all_append}
use Rattle.inverse.proofs.WritesBack.{writes_back}

-- every line of an input is of its bytes, and has no newline
record Line (l : List ℕ) : Type 0 where
  all_bytes : AllBytes l
  newline_free : NoNewline l

no_line : Line []
no_line = record { all_bytes = all_none IsByte; newline_free = all_none NotNewline }

line_more : (l : List ℕ) (b : ℕ) → Line l → IsByte b → NotNewline b → Line (l ++ (b ∷ []))
line_more l b r k n = record {
  all_bytes = all_append IsByte l (b ∷ []) r.all_bytes (all_cons IsByte b [] k (all_none IsByte));
  newline_free = all_append NotNewline l (b ∷ []) r.newline_free (all_cons NotNewline b [] n (all_none NotNewline));
}

lines_are : (held input : List ℕ) → Line held → AllBytes input → Each Line (lines_from held input)
unfolding lines_from
lines_are held [] r k = choose_elim (Each Line) (eqb (length held) 0) [] (held ∷ []) (λ _. none) (λ _. and r none)
lines_are held (b ∷ input) r k =
    choose_elim (Each Line) (eqb b 10) (held ∷ lines_from [] input) (lines_from (held ++ (b ∷ [])) input)
    (λ _. and r (lines_are [] input no_line (all_tail IsByte b input k)))
    (λ n. lines_are (held ++ (b ∷ [])) input (line_more held b r (all_head IsByte b input k) n) (all_tail IsByte b input k))

-- one line
unread_line : (l : List ℕ) → read_line l ≡ NotRead → rewritten l ≡ []
unfolding rewritten takes parts_of both forms
unread_line l e = no! _ _ (rw e)

read_line_lem : (l : List ℕ) → Line l → (read_line l ≡ NotRead → ⊥) → rewritten l ≡ l ++ bytes "\n"
unfolding rewritten
read_line_lem l r some =
    let w = writes_back l r.all_bytes r.newline_free some in
    yes! _ _ w.0 ∙ ap (λ x. x ++ bytes "\n") w.1

line_good : (l : List ℕ) → Line l → rewritten l ≡ good_line l (read_line l)
unfolding good_line
line_good l r = go (read_line l) refl
  where
    go : (q : Request) → read_line l ≡ q → rewritten l ≡ good_line l (read_line l)
    go (Frames f) e = read_line_lem l r (λ n. let z : ◌≡◌ {A = ℕ} 0 1 = cc in omega arith) ∙ rw e
    go (Call k c) e = read_line_lem l r (λ n. let z : ◌≡◌ {A = ℕ} 0 1 = cc in omega arith) ∙ rw e
    go NotRead e = unread_line l e ∙ rw e

lines_good : (ls : List (List ℕ)) → Each Line ls → rewritten_lines ls ≡ good_lines ls
unfolding rewritten_lines good_lines
lines_good [] none = refl
lines_good (l ∷ ls) (and r rs) = ap₂ ◌++◌ (line_good l r) (lines_good ls rs)

pub rewrites_good_lines : RewritesGoodLines
unfolding rewritten_text
rewrites_good_lines input k = lines_good (lines_from [] input) (lines_are [] input no_line k)
