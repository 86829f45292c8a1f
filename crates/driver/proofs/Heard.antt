-- What a session says to a piece of input is the text of the outcomes of the lines that end in it. Assumes nothing.
use Rattle.std.proofs.Common.{◌≡◌, ℕ, Bool, true, false, eqb, List, [], ◌∷◌, ◌++◌, sym, refl, ap, ◌∙◌, ap₂}
use Rattle.lists.specs.Choice.{choose}
use Rattle.lists.proofs.Choice.{yes!, no! }
use Rattle.model.specs.Session.{LineOutcome, line_turn, text_from, line_text, next_line}
use Rattle.feeds.specs.Feed.{Work, answers, saying_to, number_after, Feed, ended, reply_to, holding, next, says, said}
use Rattle.driver.specs.Heard.{heard}

-- the work stays what it is
work_next : (f : Feed) (b : ℕ) → (next f b).work ≡ f.work
unfolding next choose
work_next f b = go (eqb b 10)
  where
    go : (t : Bool) → (choose t (ended f) (holding f (f.held ++ (b ∷ [])))).work ≡ f.work
    go true = refl
    go false = refl

pub said_heard : (f : Feed) (x : List ℕ) → f.work ≡ answers → said f x ≡ text_from f.line (heard f x)
unfolding said heard text_from says next
said_heard f [] a = refl
said_heard f (b ∷ x) a = go (eqb b 10) refl (said_heard (next f b) x (work_next f b ∙ a))
  where
    o : LineOutcome
    o = (line_turn f.session f.held).outcome

    -- the lines that end later, counted from n on
    rest : (n : ℕ) → List ℕ
    rest n = text_from n (heard (next f b) x)

    reply : reply_to f ≡ line_text f.line o
    reply = ap (λ (w : Work). saying_to w f.session f.line f.held) a

    number : (ended f).line ≡ next_line f.line
    number = ap (λ (w : Work). number_after w f.line f.held) a

    go : (t : Bool) → eqb b 10 ≡ t → said (next f b) x ≡ rest (next f b).line
        → says f b ++ said (next f b) x ≡ text_from f.line (choose (eqb b 10) (o ∷ heard (next f b) x) (heard (next f b) x))
    go true e later =
        ap₂ (λ w r. w ++ r) (yes! (reply_to f) [] e ∙ reply)
        (later ∙ ap (λ (g : Feed). rest g.line) (yes! (ended f) (holding f (f.held ++ (b ∷ []))) e) ∙ ap rest number)
        ∙ ap (text_from f.line) (sym (yes! (o ∷ heard (next f b) x) (heard (next f b) x) e))
    go false e later =
        ap₂ (λ w r. w ++ r) (no! (reply_to f) [] e) (later ∙ ap (λ (g : Feed). rest g.line) (no! (ended f) (holding f (f.held ++ (b ∷ []))) e))
        ∙ ap (text_from f.line) (sym (no! (o ∷ heard (next f b) x) (heard (next f b) x) e))
