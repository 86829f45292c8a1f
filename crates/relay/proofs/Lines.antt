-- The number of the next line counts the newlines that are said: a reply has one, and so has a line that is written again. Assumes
-- nothing.
use Rattle.std.proofs.Common.{◌≡◌, ℕ, ◌+◌, Bool, true, false, eqb, List, [], ◌∷◌, ◌++◌, sym, refl, ap, ◌∙◌, mod-lt, mod-eq_of_lt, arith, lit<}
use native.Mathlib.Nat.{mod-add-mod}
use Rattle.lists.specs.Choice.{choose}
use Rattle.lists.proofs.Choice.{yes!, no! }
use Rattle.model.specs.Lines.{read_line, data_of}
use Rattle.model.specs.Rewritten.{rewritten}
use Rattle.model.specs.Session.{Session, next_line}
use Rattle.model.specs.Written.{takes}
use Rattle.feeds.specs.Feed.{Work, answers, rewrites, saying_to, number_after, Feed, ended, reply_to, next, says, after, said}
use Rattle.descriptors.specs.Came.{newlines}
use Rattle.descriptors.proofs.Newlines.{newlines_append}
use Rattle.relay.specs.Spoken.{counted}
use Rattle.relay.proofs.Replies.{in_reply}
use Rattle.relay.proofs.Rewrites.{in_rewritten, in_none}

-- one number more
pub record Numbered (f : Feed) (text : List ℕ) (g : Feed) : Type 0 where
  pub line : counted g.line ≡ counted (f.line + newlines text)

again_counted : (n : ℕ) → counted (counted n) ≡ counted n
again_counted n = mod-eq_of_lt (mod-lt n (lit< tt))

saying_counts : (w : Work) (s : Session) (n : ℕ) (l : List ℕ) → counted (number_after w n l) ≡ counted (n + newlines (saying_to w s n l))
saying_counts answers s n l = again_counted (n + 1) ∙ ap (λ (k : ℕ). counted (n + k)) (sym (in_reply n _))
saying_counts rewrites s n l = go (takes (read_line l) (data_of l)) refl
  where
    go : (t : Bool) → takes (read_line l) (data_of l) ≡ t → counted (number_after rewrites n l) ≡ counted (n + newlines (rewritten l))
    go true e = ap counted (yes! (next_line n) n e) ∙ again_counted (n + 1) ∙ ap (λ (k : ℕ). counted (n + k)) (sym (in_rewritten l e))
    go false e = let k = in_none l e in ap counted (no! (next_line n) n e ∙ omega (arith, k))

numbered_none : (f g : Feed) → g.line ≡ f.line → Numbered f [] g
unfolding newlines
numbered_none f g e = record { line = ap counted (e ∙ omega arith) }

numbered_reply : (f : Feed) → Numbered f (reply_to f) (ended f)
numbered_reply f = record { line = saying_counts f.work f.session f.line f.held }

numbered_chosen : (t : Bool) (f g : Feed) → g.line ≡ f.line → Numbered f (choose t (reply_to f) []) (choose t (ended f) g)
unfolding choose
numbered_chosen true f g e = numbered_reply f
numbered_chosen false f g e = numbered_none f g e

numbered_next : (f : Feed) (b : ℕ) → Numbered f (says f b) (next f b)
unfolding next says
numbered_next f b = numbered_chosen (eqb b 10) f _ refl

numbered_join : {f g h : Feed} {x y : List ℕ} → Numbered f x g → Numbered g y h → Numbered f (x ++ y) h
numbered_join {f} {g} {h} {x} {y} a b =
    record {
      line =
          b.line
          ∙ (sym (mod-add-mod g.line 18446744073709551616 (newlines y))
          ∙ (ap (λ (n : ℕ). counted (n + newlines y)) a.line
          ∙ (mod-add-mod (f.line + newlines x) 18446744073709551616 (newlines y) ∙ ap counted (omega (arith, newlines_append x y)))));
    }

pub numbered : (f : Feed) (input : List ℕ) → Numbered f (said f input) (after f input)
unfolding after said
numbered f [] = numbered_none f f refl
numbered f (b ∷ bs) = numbered_join (numbered_next f b) (numbered (next f b) bs)
