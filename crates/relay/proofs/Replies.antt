-- A reply has one newline, its last byte. So the newlines of a text of replies count its replies. Assumes nothing.
use Rattle.std.proofs.Common.{◌≡◌, ℕ, zero, suc, ◌+◌, ◌/◌, ◌%◌, Bool, true, false, eqb, ltb, List, [], ◌∷◌, ◌++◌, refl, ◌∙◌, arith, ne_eqb}
use Rattle.lists.specs.Choice.{choose}
use Rattle.lists.specs.Places.{one_if}
use Rattle.lists.proofs.Counting.{one_no}
use Rattle.model.specs.Answers.{number, value}
use Rattle.model.specs.Classes.{Shows, no_value, its_value, its_bytes, class_of}
use Rattle.model.specs.declared.Answer.{Answer}
use Rattle.model.specs.declared.Request.{Request}
use Rattle.model.specs.declared.Request.TheVariants as request
use Rattle.model.specs.Session.{LineOutcome, decimal_by, decimal, hex_letter, hex_text, dash, shown, done_text, request_text, refusal_text, value_text, line_text}
use Rattle.descriptors.specs.Came.{newlines}
use Rattle.descriptors.proofs.Newlines.{newlines_append}

other : (b : ℕ) (l : List ℕ) → (b ≡ 10 → ⊥) → newlines (b ∷ l) ≡ newlines l
unfolding newlines
other b l n = let k = one_no (eqb b 10) (ne_eqb b 10 n) in omega (arith, k)

none : newlines [] ≡ 0
unfolding newlines
none = refl

-- a choice of two texts without a newline
chosen : (t : Bool) (x y : List ℕ) → newlines x ≡ 0 → newlines y ≡ 0 → newlines (choose t x y) ≡ 0
unfolding choose
chosen true x y p q = p
chosen false x y p q = q

in_decimal : (k n : ℕ) → newlines (decimal_by k n) ≡ 0
unfolding decimal_by
in_decimal zero n = none
in_decimal (suc k) n =
    chosen (ltb n 10) _ _ (other (48 + n) [] (λ e. omega arith) ∙ none)
    (newlines_append (decimal_by k (n / 10)) ((48 + n % 10) ∷ []) ∙ omega (arith, in_decimal k (n / 10), other (48 + n % 10) [] (λ e. omega arith), none))

letter_chosen : (t : Bool) (n : ℕ) → choose t (48 + n) (55 + n) ≡ 10 → ⊥
unfolding choose
letter_chosen true n e = omega arith
letter_chosen false n e = omega arith

letter : (n : ℕ) → hex_letter n ≡ 10 → ⊥
unfolding hex_letter
letter n = letter_chosen (ltb n 10) n

in_hex : (l : List ℕ) → newlines (hex_text l) ≡ 0
unfolding hex_text
in_hex [] = none
in_hex (b ∷ bs) = other _ _ (letter (b / 16)) ∙ other _ _ (letter (b % 16)) ∙ in_hex bs

in_dash : newlines dash ≡ 0
in_dash = other 45 [] (λ e. omega arith) ∙ none

in_shown : (s : Shows) (a : Answer) (moved : List ℕ) → newlines (shown s a moved) ≡ 0
in_shown no_value a b = in_dash
in_shown its_value a b = in_decimal 20 (value a)
in_shown its_bytes a b = in_hex b

in_request : (r : Request) (a : Answer) (moved : List ℕ) → newlines (request_text r a moved) ≡ 0
unfolding request_text done_text
in_request (request.Frames f) a b = in_dash
in_request (request.Call k n) a b = in_shown (class_of k.operation).shows a b
in_request request.NotRead a b = in_dash

in_refusal : (a : Answer) → newlines (refusal_text a) ≡ 0
unfolding refusal_text
in_refusal a = chosen _ _ _ (in_decimal 20 (value a)) in_dash

in_value : (o : LineOutcome) → newlines (value_text o) ≡ 0
unfolding value_text
in_value o = chosen _ _ _ (in_request o.request o.answer o.moved) (in_refusal o.answer)

pub in_reply : (n : ℕ) (o : LineOutcome) → newlines (line_text n o) ≡ 1
unfolding line_text newlines one_if
in_reply n o =
    newlines_append (decimal n) _
    ∙ omega (arith, in_decimal 20 n, newlines_append (decimal (number o.answer)) (32 ∷ value_text o ++ (10 ∷ [])), in_decimal 20 (number o.answer), newlines_append (value_text o) (10 ∷ []), in_value o)
