-- What is said to a piece of input, and to all pieces of one, does not depend on where it was cut. Assumes nothing.
use Prim.Native.Nat.{ℕ}
use mathlib.Core.List.{List, [], ◌∷◌, ◌++◌, append_assoc}
use mathlib.Core.Path.{◌≡◌, refl, sym, ap, ◌∙◌}
use Rattle.feeds.specs.Feed.{Feed, next, says, after, said, last_words, all_said, spoken, joined}

-- pieces compose
pub after_append : (f : Feed) (x y : List ℕ) → after f (x ++ y) ≡ after (after f x) y
unfolding after
after_append f [] y = refl
after_append f (b ∷ x) y = after_append (next f b) x y

pub said_append : (f : Feed) (x y : List ℕ) → said f (x ++ y) ≡ said f x ++ said (after f x) y
unfolding after said
said_append f [] y = refl
said_append f (b ∷ x) y = rw (said_append (next f b) x y, append_assoc)

pub all_pieces : (f : Feed) (ps : List (List ℕ)) → spoken f ps ≡ all_said f (joined ps)
unfolding spoken joined after said
all_pieces f [] = refl
all_pieces f (p ∷ ps) =
    rw (all_pieces (after f p) ps, said_append f p (joined ps), after_append f p (joined ps)) (sym (append_assoc (said f p) _ _))

-- one byte of an input, and the rest of it
pub all_turn : (f g : Feed) (b : ℕ) (w bs : List ℕ) → next f b ≡ g → says f b ≡ w → all_said f (b ∷ bs) ≡ w ++ all_said g bs
unfolding said after
all_turn f g b w bs e q =
    ap (λ (x : List ℕ). (x ++ said (next f b) bs) ++ last_words (after (next f b) bs)) q
    ∙ ap (λ (y : Feed). (w ++ said y bs) ++ last_words (after y bs)) e
    ∙ append_assoc w _ _
