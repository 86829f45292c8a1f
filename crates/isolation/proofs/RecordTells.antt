-- What the folds tell has its ground in earlier deeds, in any record of rightful calls: no table is looked at. Each fold has
-- one law about a single deed, and one by induction over the record. Assumes nothing.
use Prim.Native.Nat.{ℕ}
use mathlib.Core.Bool.{Bool, true, false}
use mathlib.Core.List.{List, [], ◌∷◌}
use mathlib.Core.Logic.{◌≢◌, ◌⊎◌, inl, inr, ⊎_elim}
use mathlib.Core.Path.{◌≡◌, refl, sym, ap, ap₂, ◌∙◌}
use native.Mathlib.Decide.{ℕ_discrete}
use native.Mathlib.Omega.{arith}
use lib.Dec.{eqb}
use borrow.Author.Tests.{eqb-true, eqb-false, eq-eqb, ne_eqb, not-false}
use Rattle.lists.specs.Choice.{choose, both}
use Rattle.lists.proofs.Choice.{true_false, yes!, no!, choose_elim, both_yes}
use Rattle.model.specs.declared.Grant.{Grant}
use Rattle.model.specs.declared.Grant.TheVariants.{Nothing, Reading, Writing}
use Rattle.model.specs.declared.Right.{Right}
use Rattle.model.specs.declared.Right.TheVariants.{Read, Write}
use Rattle.model.specs.Changes.{allows, raised}
use Rattle.isolation.specs.Ground.{Never, Did, Owns, AtLeast, GivesUp, Withdraws, PermittedBefore}
use Rattle.isolation.specs.History.{Event, Deed, nothing, enrolled, created, destroyed, permitted, isolated, added, removed, loaded, switched, reset, deed}
use Rattle.isolation.specs.Recall.{Given, space, misformed, unassigned, withdrawn, unless, owner_by, owner_in, home_by, home_in, grant_by, grant_in, token_by, token_in}
use Rattle.isolation.proofs.Did.{did_now, did_more}
use Rattle.isolation.proofs.Record.{Memory, memory, NewTo, Rightful, Proper, same_pair, pair_same}

-- Owners: a space has the owner that it had, or a deed gave it.
abbrev pub Gave : Deed → (guest id : ℕ) → Type 0
Gave d g x = (d ≡ enrolled g x) ⊎ (d ≡ created g x)

owns_now : (e : Event) (h : List Event) (g x : ℕ) → Gave (deed e) g x → Owns (e ∷ h) g x
owns_now e h g x = ⊎_elim (λ q. inl (did_now e h (enrolled g x) q)) (λ q. inr (did_now e h (created g x) q))

owns_more : (e : Event) (h : List Event) (g x : ℕ) → Owns h g x → Owns (e ∷ h) g x
owns_more e h g x = ⊎_elim (λ p. inl (did_more e h (enrolled g x) p)) (λ p. inr (did_more e h (created g x) p))

owner_by_lem : (d : Deed) (x o p : ℕ) → owner_by d x o ≡ p → (o ≡ p) ⊎ Gave d p x
unfolding owner_by
owner_by_lem nothing x o p e = inl e
owner_by_lem (enrolled g i) x o p e = choose_elim (λ y. y ≡ p → (o ≡ p) ⊎ Gave (enrolled g i) p x) (eqb i x) g o (λ q f. inr (inl (ap₂ enrolled f (eqb-true i x q)))) (λ _ f. inl f) e
owner_by_lem (created g i) x o p e = choose_elim (λ y. y ≡ p → (o ≡ p) ⊎ Gave (created g i) p x) (eqb i x) g o (λ q f. inr (inr (ap₂ created f (eqb-true i x q)))) (λ _ f. inl f) e
owner_by_lem (destroyed g i) x o p e = inl e
owner_by_lem (permitted g i h r) x o p e = inl e
owner_by_lem (isolated g i) x o p e = inl e
owner_by_lem (added g i r t) x o p e = inl e
owner_by_lem (removed g t) x o p e = inl e
owner_by_lem (loaded c r v) x o p e = inl e
owner_by_lem (switched c k) x o p e = inl e
owner_by_lem (reset g) x o p e = inl e

pub owner_did : (h : List Event) (x o : ℕ) → owner_in h x ≡ o → o ≢ 0 → Owns h o x
unfolding owner_in
owner_did [] x o q ne = absurd (ne (sym q))
owner_did (e ∷ h) x o q ne =
    ⊎_elim (λ b. owns_more e h o x (owner_did h x o b ne)) (owns_now e h o x) (owner_by_lem (deed e) x (owner_in h x) o q)

-- a rightful deed gives new identifications alone
pub gave_new : (m : Memory) (d : Deed) (g x : ℕ) → Rightful m d → Gave d g x → NewTo m g x
gave_new m d g x r = ⊎_elim (λ q. rw q at r) (λ q. rw q at r)

-- it keeps its owner, since no identification is given again
pub owner_kept : (h : List Event) (e : Event) (x : ℕ) → Rightful (memory h) (deed e) → owner_in h x ≢ 0 → owner_in (e ∷ h) x ≡ owner_in h x
unfolding owner_in
owner_kept h e x r ne =
    ⊎_elim (λ q. sym q) (λ q. absurd (ne ((gave_new (memory h) (deed e) _ x r q).above x (omega arith)))) (owner_by_lem (deed e) x (owner_in h x) _ refl)

-- Homes: an ENROL gave it.
home_by_lem : (d : Deed) (g i x : ℕ) → home_by d g i ≡ x → (i ≡ x) ⊎ (d ≡ enrolled g x)
unfolding home_by
home_by_lem nothing g i x e = inl e
home_by_lem (enrolled h y) g i x e = choose_elim (λ z. z ≡ x → (i ≡ x) ⊎ (enrolled h y ≡ enrolled g x)) (eqb h g) y i (λ q f. inr (ap₂ enrolled (eqb-true h g q) f)) (λ _ f. inl f) e
home_by_lem (created h y) g i x e = inl e
home_by_lem (destroyed h y) g i x e = inl e
home_by_lem (permitted h y o r) g i x e = inl e
home_by_lem (isolated h y) g i x e = inl e
home_by_lem (added h y r t) g i x e = inl e
home_by_lem (removed h t) g i x e = inl e
home_by_lem (loaded c r v) g i x e = inl e
home_by_lem (switched c k) g i x e = inl e
home_by_lem (reset h) g i x e = inl e

pub home_did : (h : List Event) (g x : ℕ) → home_in h g ≡ x → x ≢ 0 → Did h (enrolled g x)
unfolding home_in
home_did [] g x q ne = absurd (ne (sym q))
home_did (e ∷ h) g x q ne =
    ⊎_elim (λ b. did_more e h (enrolled g x) (home_did h g x b ne)) (did_now e h (enrolled g x)) (home_by_lem (deed e) g (home_in h g) x q)

-- Permits. What a raised one allows it allowed before, or the PERMIT's right is enough.
raised_by : (a : Grant) (q r : Right) → allows (raised a q) r ≡ true → AtLeast q r ⊎ (allows a r ≡ true)
unfolding allows raised
raised_by a Write r e = inl tt
raised_by a Read Read e = inl tt
raised_by Nothing Read Write e = true_false refl (sym e)
raised_by Reading Read Write e = true_false refl (sym e)
raised_by Writing Read Write e = inr e

-- the deed is a PERMIT of the space to the guest with enough right
record PermitNow (d : Deed) (x g : ℕ) (r : Right) : Type 0 where
  by : ℕ
  right : Right
  is : d ≡ permitted by x g right
  enough : AtLeast right r

-- a permit that may have ended and still allows allowed
ended : (t : Bool) (a : Grant) (r : Right) → allows (choose t Nothing a) r ≡ true → allows a r ≡ true
unfolding allows choose
ended true a r e = true_false refl (sym e)
ended false a r e = e

grant_by_lem : (d : Deed) (o x g : ℕ) (a : Grant) (r : Right) → allows (grant_by d o x g a) r ≡ true → PermitNow d x g r ⊎ (allows a r ≡ true)
unfolding grant_by allows
grant_by_lem nothing o x g a r e = inr e
grant_by_lem (enrolled h i) o x g a r e = inr e
grant_by_lem (created h i) o x g a r e = inr e
grant_by_lem (destroyed h i) o x g a r e = inr (ended (eqb i x) a r e)
grant_by_lem (permitted h i k q) o x g a r e =
    choose_elim (λ y. allows y r ≡ true → PermitNow (permitted h i k q) x g r ⊎ (allows a r ≡ true)) (both (eqb i x) (eqb k g)) (raised a q) a
    (λ b f. ⊎_elim
    (λ enough. inl (record { by = h; right = q; is = let w = pair_same i x k g b in ap₂ (λ y z. permitted h y z q) w.0 w.1; enough = enough }))
    (λ before. inr before) (raised_by a q r f))
    (λ _ f. inr f) e
grant_by_lem (isolated h i) o x g a r e = inr (ended (eqb i x) a r e)
grant_by_lem (added h i q t) o x g a r e = inr e
grant_by_lem (removed h t) o x g a r e = inr e
grant_by_lem (loaded c q v) o x g a r e = inr e
grant_by_lem (switched c k) o x g a r e = inr e
grant_by_lem (reset h) o x g a r e = inr (ended (eqb h o) a r e)

-- ISOLATE of the space and RESET by its owner leave no permit
grant_spared : (d : Deed) (o x g : ℕ) (a : Grant) (r : Right) → allows (grant_by d o x g a) r ≡ true → Withdraws o x d → ⊥
unfolding grant_by allows
grant_spared d o x g a r e =
    ⊎_elim (λ (q : (k : ℕ) × (d ≡ isolated k x)). none (eqb x x) (eq-eqb x x refl) (rw q.1 at e)) (λ q. none (eqb o o) (eq-eqb o o refl) (rw q at e))
  where
    none : (t : Bool) → t ≡ true → allows (choose t Nothing a) r ≡ true → ⊥
    none t y f = true_false f (ap (λ z. allows z r) (yes! Nothing a y))

-- the PERMIT that a permit rests on
pub record PermitDid (h : List Event) (o x g : ℕ) (r : Right) : Type 0 where
  pub owner : o ≢ 0
  pub right : Right
  pub did : Did h (permitted o x g right)
  pub enough : AtLeast right r
  pub since : Never (Withdraws o x) did.later

pub grant_did : (h : List Event) → Proper h → (x g : ℕ) (r : Right) → allows (grant_in h x g) r ≡ true → PermitDid h (owner_in h x) x g r
unfolding grant_in allows did_now did_more
grant_did [] p x g r a = true_false a refl
grant_did (e ∷ h) p x g r a = ⊎_elim now (λ b. before (grant_did h p.1 x g r b)) (grant_by_lem (deed e) (owner_in h x) x g (grant_in h x g) r a)
  where
    now : PermitNow (deed e) x g r → PermitDid (e ∷ h) (owner_in (e ∷ h) x) x g r
    now n =
        let f : (owner_in h x ≢ 0) × (owner_in h x ≡ n.by) = rw n.is at p.0 in
        rw (owner_kept h e x p.0 f.0)
        (record { owner = f.0; right = n.right; did = did_now e h _ (n.is ∙ ap (λ o. permitted o x g n.right) (sym f.1)); enough = n.enough; since = tt })

    before : PermitDid h (owner_in h x) x g r → PermitDid (e ∷ h) (owner_in (e ∷ h) x) x g r
    before f =
        rw (owner_kept h e x p.0 f.owner)
        (record {
          owner = f.owner;
          right = f.right;
          did = did_more e h _ f.did;
          enough = f.enough;
          since = (grant_spared (deed e) (owner_in h x) x g (grant_in h x g) r a, f.since);
        })

-- Tokens. The four things that a token may give are apart.
abbrev kind : Given → ℕ
kind (space x r) = 0
kind misformed = 1
kind unassigned = 2
kind withdrawn = 3

-- one that still gives a space gave it before, and the test spares the space
unless_space : (t : ℕ → Bool) (a : Given) (x : ℕ) (r : Right) → unless t a ≡ space x r → (a ≡ space x r) × (t x ≡ false)
unfolding unless
unless_space t (space i q) x r e =
    choose_elim (λ y. y ≡ space x r → (space i q ≡ space x r) × (t x ≡ false)) (t i) withdrawn (space i q) (λ _ f. absurd (omega (arith, ap kind f))) (λ n f. let w : x ≡ i = cc in (f, rw w n)) e
unless_space t misformed x r e = absurd (omega (arith, ap kind e))
unless_space t unassigned x r e = absurd (omega (arith, ap kind e))
unless_space t withdrawn x r e = absurd (omega (arith, ap kind e))

-- a deed that leaves even a malformed token at that is none by which the guest gives the token up
token_held : (d : Deed) (own : ℕ → ℕ) (g t : ℕ) → token_by d own g t misformed ≡ misformed → GivesUp g t d → ⊥
unfolding token_by
token_held d own g t e =
    ⊎_elim (λ (p : (x : ℕ) × (r : Right) × (d ≡ added g x r t)). omega (arith, left (space p.0 p.1) misformed twice (rw p.2 at e)))
    (⊎_elim (λ q. omega (arith, left unassigned misformed twice (rw q at e))) (λ q. omega (arith, left unassigned _ (eq-eqb g g refl) (rw q at e))))
  where
    twice : both (eqb g g) (eqb t t) ≡ true
    twice = same_pair g g t t refl refl

    left : {b : Bool} (v w : Given) → b ≡ true → choose b v w ≡ misformed → kind v ≡ 1
    left v w y f = ap kind (sym (yes! v w y) ∙ f)

-- a token that gives a space was added by the deed, or gave that space before and was not given up
abbrev AddedOrHeld : Deed → (guest token : ℕ) → Given → (id : ℕ) → Right → Type 0
AddedOrHeld d g t a x r = (d ≡ added g x r t) ⊎ ((a ≡ space x r) × (GivesUp g t d → ⊥))

token_by_lem : (d : Deed) (own : ℕ → ℕ) (g t : ℕ) (a : Given) (x : ℕ) (r : Right) → token_by d own g t a ≡ space x r → AddedOrHeld d g t a x r
unfolding token_by unless
token_by_lem nothing own g t a x r e = inr (e, token_held nothing own g t refl)
token_by_lem (enrolled h i) own g t a x r e = inr (e, token_held (enrolled h i) own g t refl)
token_by_lem (created h i) own g t a x r e = inr (e, token_held (created h i) own g t refl)
token_by_lem (destroyed h i) own g t a x r e = inr ((unless_space (eqb i) a x r e).0, token_held (destroyed h i) own g t refl)
token_by_lem (permitted h i k q) own g t a x r e = inr (e, token_held (permitted h i k q) own g t refl)
token_by_lem (isolated h i) own g t a x r e = inr ((unless_space _ a x r e).0, token_held (isolated h i) own g t refl)
token_by_lem (added h i q k) own g t a x r e =
    choose_elim (λ y. y ≡ space x r → AddedOrHeld (added h i q k) g t a x r) (both (eqb h g) (eqb k t)) (space i q) a
    (λ b f. let w = pair_same h g k t b in inl (cc))
    (λ n f. inr (f, token_held (added h i q k) own g t (no! _ _ n))) e
token_by_lem (removed h k) own g t a x r e =
    choose_elim (λ y. y ≡ space x r → AddedOrHeld (removed h k) g t a x r) (both (eqb h g) (eqb k t)) unassigned a
    (λ _ f. absurd (omega (arith, ap kind f)))
    (λ n f. inr (f, token_held (removed h k) own g t (no! _ _ n))) e
token_by_lem (loaded c q v) own g t a x r e = inr (e, token_held (loaded c q v) own g t refl)
token_by_lem (switched c k) own g t a x r e = inr (e, token_held (switched c k) own g t refl)
token_by_lem (reset h) own g t a x r e =
    choose_elim (λ y. y ≡ space x r → AddedOrHeld (reset h) g t a x r) (eqb h g) unassigned (unless (λ y. eqb (own y) h) a)
    (λ _ f. absurd (omega (arith, ap kind f)))
    (λ n f. inr ((unless_space (λ y. eqb (own y) h) a x r f).0, token_held (reset h) own g t (no! _ _ n))) e

-- ISOLATE of the space and RESET by its owner leave it no other guest's token
token_spared : (d : Deed) (own : ℕ → ℕ) (g t : ℕ) (a : Given) (x : ℕ) (r : Right) → token_by d own g t a ≡ space x r → own x ≢ g → Withdraws (own x) x d → ⊥
unfolding token_by
token_spared d own g t a x r e ne =
    ⊎_elim
    (λ (q : (k : ℕ) × (d ≡ isolated k x)). ne (eqb-true (own x) g (not-false _ (sym (both_yes _ (eq-eqb x x refl)) ∙ (unless_space _ a x r (rw q.1 at e)).1))))
    (λ q. eqb-false (own x) (own x) (unless_space (λ y. eqb (own y) (own x)) a x r (sym (no! unassigned _ (ne_eqb (own x) g ne)) ∙ (rw q at e))).1 refl)

-- the ADD that a token rests on
pub record TokenDid (h : List Event) (o g t x : ℕ) (r : Right) : Type 0 where
  pub owner : o ≢ 0
  pub did : Did h (added g x r t)
  pub last : Never (GivesUp g t) did.later
  pub basis : (o ≡ g) ⊎ PermittedBefore did.later did.earlier o g x r

pub token_did : (h : List Event) → Proper h → (g t x : ℕ) (r : Right) → token_in h g t ≡ space x r → TokenDid h (owner_in h x) g t x r
unfolding token_in did_now did_more
token_did [] p g t x r a = absurd (omega (arith, ap kind a))
token_did (e ∷ h) p g t x r a =
    ⊎_elim now (λ (b : (token_in h g t ≡ space x r) × (GivesUp g t (deed e) → ⊥)). before b.1 (ℕ_discrete (owner_in h x) g) (token_did h p.1 g t x r b.0))
    (token_by_lem (deed e) (owner_in h) g t (token_in h g t) x r a)
  where
    now : deed e ≡ added g x r t → TokenDid (e ∷ h) (owner_in (e ∷ h) x) g t x r
    now q =
        let f : (owner_in h x ≢ 0) × ((owner_in h x ≡ g) ⊎ (allows (grant_in h x g) r ≡ true)) = rw q at p.0 in
        rw (owner_kept h e x p.0 f.0)
        (record { owner = f.0; did = did_now e h _ q; last = tt; basis = ⊎_elim (λ o. inl o) (λ b. inr (permit (grant_did h p.1 x g r b))) f.1 })
      where
        permit : PermitDid h (owner_in h x) x g r → PermittedBefore [] h (owner_in h x) g x r
        permit b = record { right = b.right; did = b.did; enough = b.enough; since = b.since; since_add = tt }

    before : (GivesUp g t (deed e) → ⊥) → Dec (owner_in h x ≡ g) → TokenDid h (owner_in h x) g t x r → TokenDid (e ∷ h) (owner_in (e ∷ h) x) g t x r
    before held own f =
        rw (owner_kept h e x p.0 f.owner)
        (record { owner = f.owner; did = did_more e h _ f.did; last = (held, f.last); basis = basis own f.basis })
      where
        basis : Dec (owner_in h x ≡ g) → (owner_in h x ≡ g) ⊎ PermittedBefore f.did.later f.did.earlier (owner_in h x) g x r
            → (owner_in h x ≡ g) ⊎ PermittedBefore (e ∷ f.did.later) f.did.earlier (owner_in h x) g x r
        basis (yes o) b = inl o
        basis (no o) (inl b) = inl b
        basis (no o) (inr b) =
            inr (record { right = b.right; did = b.did; enough = b.enough; since = b.since; since_add = (token_spared (deed e) (owner_in h) g t (token_in h g t) x r a o, b.since_add) })
