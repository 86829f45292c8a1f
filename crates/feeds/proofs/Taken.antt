-- A line of which no byte is held stands whole in the input. Assumes nothing.
use Prim.Native.Nat.{ℕ}
use mathlib.Core.List.{List}
use mathlib.Core.Path.{◌≡◌, refl, subst, sym, ap, ◌∙◌}
use lib.ListN.{take}
use Rattle.model.specs.Session.{Session}
use Rattle.digits.specs.Wrote.{Wrote}
use Rattle.feeds.specs.Feed.{Work, session_after, saying_to, number_after, whole_line}
use Rattle.feeds.proofs.Cut.{session_cut, saying_cut, number_cut}

module _ (w : Work) (h l : List ℕ) (have : ℕ) (e : have ≡ 0) where
  whole_is : take 601 l ≡ whole_line h have l
  whole_is = rw e refl

  pub whole_session : (s t : Session) → t ≡ session_after w s l → t ≡ session_after w s (whole_line h have l)
  whole_session s t p = p ∙ sym (session_cut w s l) ∙ ap (session_after w s) whole_is

  pub whole_number : (n k : ℕ) → k ≡ number_after w n l → k ≡ number_after w n (whole_line h have l)
  whole_number n k p = p ∙ sym (number_cut w n l) ∙ ap (number_after w n) whole_is

  pub whole_said : (s : Session) (n a p : ℕ) (o o' : List ℕ) → Wrote o a (saying_to w s n l) o' p → Wrote o a (saying_to w s n (whole_line h have l)) o' p
  whole_said s n a p o o' t = subst (λ (x : List ℕ). Wrote o a x o' p) (sym (saying_cut w s n l) ∙ ap (saying_to w s n) whole_is) t
