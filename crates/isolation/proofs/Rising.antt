-- Identifications rise from call to call, so no space has two owners. Assumes nothing.
use Prim.Native.Nat.{ℕ, ◌≤◌, ◌<◌}
use mathlib.Core.List.{List, [], ◌∷◌, ◌++◌}
use mathlib.Core.Logic.{◌≢◌, ◌⊎◌, inl, inr, ⊎_elim}
use mathlib.Core.Path.{◌≡◌, refl, sym, ap, ◌∙◌}
use native.Mathlib.Decide.{dec_le}
use native.Mathlib.Omega.{arith}
use borrow.Author.Tests.{eq-eqb}
use Rattle.lists.proofs.Choice.{yes! }
use Rattle.isolation.specs.Ground.{Did, Owns, Rising, RisingIds, OneOwner}
use Rattle.isolation.specs.History.{Event, Deed, enrolled, created, deed}
use Rattle.isolation.specs.Recall.{owner_by, owner_in}
use Rattle.isolation.proofs.Record.{memory, Proper}
use Rattle.isolation.proofs.RecordKept.{recorded_all}
use Rattle.isolation.proofs.RecordTells.{Gave, gave_new, owner_kept}

-- a deed of a record is that of its latest call, or an earlier one
did_cases : (e : Event) (h : List Event) (d : Deed) → Did (e ∷ h) d → (deed e ≡ d) ⊎ Did h d
did_cases e h d p = go p.later p.split
  where
    go : (l : List Event) → e ∷ h ≡ l ++ (p.event ∷ p.earlier) → (deed e ≡ d) ⊎ Did h d
    go [] q = let same : e ≡ p.event = cc in inl (ap deed same ∙ p.is)
    go (x ∷ l) q = inr (record { later = l; event = p.event; earlier = p.earlier; split = cc; is = p.is })

did_none : (d : Deed) → Did [] d → ⊥
did_none d p = go p.later p.split
  where
    go : (l : List Event) → [] ≡ l ++ (p.event ∷ p.earlier) → ⊥
    go [] q = let z : ◌≡◌ {A = ℕ} 0 1 = cc in omega arith
    go (x ∷ l) q = let z : ◌≡◌ {A = ℕ} 0 1 = cc in omega arith

owns_cases : (e : Event) (h : List Event) (g x : ℕ) → Owns (e ∷ h) g x → Gave (deed e) g x ⊎ Owns h g x
owns_cases e h g x (inl p) = ⊎_elim (λ q. inl (inl q)) (λ q. inr (inl q)) (did_cases e h (enrolled g x) p)
owns_cases e h g x (inr p) = ⊎_elim (λ q. inl (inr q)) (λ q. inr (inr q)) (did_cases e h (created g x) p)

owns_none : (g x : ℕ) → Owns [] g x → ⊥
owns_none g x = ⊎_elim (did_none (enrolled g x)) (did_none (created g x))

-- a space that was given has an owner
owns_owner : (h : List Event) → Proper h → (g x : ℕ) → Owns h g x → owner_in h x ≢ 0
unfolding owner_in owner_by
owns_owner [] p g x o = absurd (owns_none g x o)
owns_owner (e ∷ h) p g x o = ⊎_elim now (λ b. before (owns_owner h p.1 g x b)) (owns_cases e h g x o)
  where
    now : Gave (deed e) g x → owner_in (e ∷ h) x ≢ 0
    now q z = (gave_new (memory h) (deed e) g x p.0 q).guest (⊎_elim
        (λ f. sym (yes! g _ (eq-eqb x x refl)) ∙ (rw f at z)) (λ f. sym (yes! g _ (eq-eqb x x refl)) ∙ (rw f at z)) q)

    before : owner_in h x ≢ 0 → owner_in (e ∷ h) x ≢ 0
    before ne z = ne (sym (owner_kept h e x p.0 ne) ∙ z)

rising : (h : List Event) → Proper h → Rising h
unfolding Rising
rising [] p = tt
rising (e ∷ h) p = ((λ x g y k o. below x y (gave_new (memory h) (deed e) _ x p.0 k.1).above (owns_owner h p.1 g y o) (dec_le x y)), rising h p.1)
  where
    below : (x y : ℕ) → ((z : ℕ) → x ≤ z → owner_in h z ≡ 0) → owner_in h y ≢ 0 → Dec (x ≤ y) → y < x
    below x y above ne (yes l) = absurd (ne (above y l))
    below x y above ne (no l) = omega arith

pub rising_ids : RisingIds
rising_ids F scratch calls ready = rising _ (recorded_all F scratch calls ready).proper

pub one_owner : OneOwner
unfolding Rising
one_owner [] g o x r a b = absurd (owns_none g x a)
one_owner (e ∷ h) g o x r a b = go (owns_cases e h g x a) (owns_cases e h o x b) (one_owner h g o x r.1)
  where
    same : Gave (deed e) g x → Gave (deed e) o x → g ≡ o
    same (inl p) (inl q) = cc
    same (inl p) (inr q) = cc
    same (inr p) (inl q) = cc
    same (inr p) (inr q) = cc

    go : Gave (deed e) g x ⊎ Owns h g x → Gave (deed e) o x ⊎ Owns h o x → (Owns h g x → Owns h o x → g ≡ o) → g ≡ o
    go (inl p) (inl q) before = same p q
    go (inl p) (inr q) before = absurd (omega (arith, r.0 x o x (g, p) q))
    go (inr p) (inl q) before = absurd (omega (arith, r.0 x g x (o, q) p))
    go (inr p) (inr q) before = before p q
