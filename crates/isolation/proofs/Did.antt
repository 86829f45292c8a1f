-- How to go through a record: where a deed was done, and that one was done nowhere. Assumes nothing.
use mathlib.Core.List.{List, [], ◌∷◌, ◌++◌}
use mathlib.Core.Path.{◌≡◌, refl, sym, ap, ◌∙◌}
use Rattle.isolation.specs.Ground.{Never, Did}
use Rattle.isolation.specs.History.{Event, Deed, deed}

-- a deed of the latest call, one of an earlier call, and one that stays whatever comes later
unfoldable pub did_now : (e : Event) (h : List Event) (d : Deed) → deed e ≡ d → Did (e ∷ h) d
did_now e h d q = record { later = []; event = e; earlier = h; split = refl; is = q }

unfoldable pub did_more : (e : Event) (h : List Event) (d : Deed) → Did h d → Did (e ∷ h) d
did_more e h d p = record { later = e ∷ p.later; event = p.event; earlier = p.earlier; split = ap (λ (x : List Event). e ∷ x) p.split; is = p.is }

pub did_in : (l h : List Event) (d : Deed) → Did h d → Did (l ++ h) d
did_in [] h d p = p
did_in (e ∷ l) h d p = did_more e (l ++ h) d (did_in l h d p)

pub never_map : (P Q : Deed → Type 0) → ((d : Deed) → P d → Q d) → (h : List Event) → Never Q h → Never P h
never_map P Q f [] n = tt
never_map P Q f (e ∷ h) n = ((λ p. n.0 (f (deed e) p)), never_map P Q f h n.1)

-- two parts of a record, and the call between them
pub never_join : (P : Deed → Type 0) (l : List Event) (e : Event) (h : List Event) → (P (deed e) → ⊥) → Never P l → Never P h → Never P (l ++ (e ∷ h))
never_join P [] e h f n o = (f, o)
never_join P (y ∷ l) e h f n o = (n.0, never_join P l e h f n.1 o)

-- no call of the record did this deed
abbrev pub Undone : Deed → List Event → Type 0
Undone d h = Never (λ x. x ≡ d) h

pub undone : (d : Deed) (h : List Event) → Undone d h → Did h d → ⊥
undone d h never p = go p.later (rw p.split at never)
  where
    go : (l : List Event) → Undone d (l ++ (p.event ∷ p.earlier)) → ⊥
    go [] n = n.0 p.is
    go (x ∷ l) n = go l n.1

-- a deed with no deed since of which P holds; where P holds of e's, it was done by e or since
abbrev pub Since : (Deed → Type 0) → List Event → Deed → Type 0
Since P h d = (p : Did h d) × Never P p.later

module _ (h l : List Event) (e : Event) (b : List Event) (split : h ≡ l ++ (e ∷ b)) (d : Deed) where
  pub since_last : (P : Deed → Type 0) → P (deed e) → Since P h d → Did (l ++ (e ∷ [])) d
  since_last P w p = go l p.0.later (sym split ∙ p.0.split) p.1
    where
      is : (x : Event) → x ≡ p.0.event → deed x ≡ d
      is x q = ap (λ (y : Event). deed y) q ∙ p.0.is

      go : (l k : List Event) → l ++ (e ∷ b) ≡ k ++ (p.0.event ∷ p.0.earlier) → Never P k → Did (l ++ (e ∷ [])) d
      go [] [] s n = did_now e [] d (is e (cc))
      go [] (x ∷ k) s n = let q : e ≡ x = cc in absurd (n.0 (rw q at w))
      go (y ∷ l) [] s n = did_now y (l ++ (e ∷ [])) d (is y (cc))
      go (y ∷ l) (x ∷ k) s n = did_more y (l ++ (e ∷ [])) d (go l k (cc) n.1)

  -- where no call since e did it, what came before it came before e
  pub before_it : (c : Deed) → Undone d l → (p : Did h d) → Did p.earlier c → Did b c
  before_it c never p was = go l p.later (sym split ∙ p.split) never
    where
      go : (l k : List Event) → l ++ (e ∷ b) ≡ k ++ (p.event ∷ p.earlier) → Undone d l → Did b c
      go [] [] s n = let q : b ≡ p.earlier = cc in rw q was
      go [] (x ∷ k) s n = let q : b ≡ k ++ (p.event ∷ p.earlier) = cc in rw q (did_in k _ c (did_more p.event p.earlier c was))
      go (y ∷ l) [] s n = let q : y ≡ p.event = cc in absurd (n.0 (ap (λ (z : Event). deed z) q ∙ p.is))
      go (y ∷ l) (x ∷ k) s n = go l k (cc) n.1
