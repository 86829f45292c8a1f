-- Records with no ground for a fetch or store, over any guest, token and space: each clause of the second half has a law here
-- that needs it. They rest on the statement alone, and not on how it is proved of the manager. Assumes nothing.
use Prim.Native.Nat.{ℕ}
use mathlib.Core.Bool.{true}
use mathlib.Core.List.{List, [], ◌∷◌, ◌++◌, append_assoc}
use mathlib.Core.Logic.{◌≢◌, ◌⊎◌, inl, inr, ⊎_elim}
use mathlib.Core.Path.{◌≡◌, refl, sym, ap, ◌∙◌}
use native.Mathlib.Omega.{arith}
use Rattle.model.specs.declared.Right.{Right}
use Rattle.model.specs.declared.Right.TheVariants.{Read, Write}
use Rattle.model.specs.Classes.{Moves, no_bytes, from_space, to_space, class_of, is_store}
use Rattle.model.specs.Step.{Issue}
use Rattle.isolation.specs.Ground.{Did, Owns, AtLeast, GivesUp, Withdraws, PermittedBefore, ByEntry, Ground}
use Rattle.isolation.specs.History.{Event, Deed, enrolled, permitted, isolated, added, removed, reset, deed}
use Rattle.isolation.specs.Reaches.{MovesThrough, Through}
use Rattle.isolation.specs.Recall.{used_in}
use Rattle.isolation.proofs.Did.{never_join, Undone, undone, Since, since_last, before_it}

-- a fetch or store goes through one register
through_one : (v : Moves) (r q : ℕ) → MovesThrough v r → MovesThrough v q → r ≡ q
through_one no_bytes r q a b = absurd a
through_one (from_space register address) r q a b = sym a ∙ b
through_one (to_space register address) r q a b = sym a ∙ b

-- an ADD withdraws nothing
added_spares : (o x g y t : ℕ) (r : Right) (d : Deed) → d ≡ added g y r t → Withdraws o x d → ⊥
added_spares o x g y t r d e =
    ⊎_elim (λ (p : (k : ℕ) × (d ≡ isolated k x)). let q = p.1 in let z : ◌≡◌ {A = ℕ} 0 1 = cc in omega arith) (λ q. let z : ◌≡◌ {A = ℕ} 0 1 = cc in omega arith)

at_least_write : (r q : Right) → AtLeast r q → q ≡ Write → r ≡ Write
at_least_write Read Read a e = e
at_least_write Read Write a e = absurd a
at_least_write Write q a e = refl

not_read : (r : Right) → (r ≡ Read → ⊥) → r ≡ Write
not_read Read f = absurd (f refl)
not_read Write f = refl

-- The next call `i` goes through register `r`; `g` is its guest, `t` the token used.
module _ (h : List Event) (i : Issue) (x r : ℕ) (goes : Through i.call.operation r) where
  abbrev g : ℕ
  g = i.call.caller.guest

  abbrev t : ℕ
  t = used_in h i.call.caller r

  -- a ground is by token 0 or by an entry, as the token used says
  way : Ground h i x → ((t ≡ 0) × Did h (enrolled g x)) ⊎ ((t ≡ 0 → ⊥) × ByEntry h i.call.operation g t x)
  way w = rw (through_one (class_of i.call.operation).moves r w.register goes w.through) w.way

  -- token 0, and a space that is not of the guest's ENROL
  pub none_home : t ≡ 0 → Undone (enrolled g x) h → Ground h i x → ⊥
  none_home z never w = ⊎_elim (λ p. undone (enrolled g x) h never p.1) (λ p. p.0 z) (way w)

  -- Any other token.
  module _ (other : t ≢ 0) where
    by : Ground h i x → ByEntry h i.call.operation g t x
    by w = ⊎_elim (λ p. absurd (other p.0)) (λ p. p.1) (way w)

    -- a store, and no ADD of the space with write
    pub none_write : is_store i.call.operation ≡ true → Undone (added g x Write t) h → Ground h i x → ⊥
    none_write store never w = let p = by w in undone (added g x Write t) h never (rw (p.write store) at p.did)

    -- `e` is a call of the record, `l` what came since and `b` what came before.
    module _ (l : List Event) (e : Event) (b : List Event) (split : h ≡ l ++ (e ∷ b)) where
      -- by it the guest gave the token up, and it did not add the token for this space by it or since
      given_up : GivesUp g t (deed e) → ((q : Right) → deed e ≡ added g x q t → ⊥) → ((q : Right) → Undone (added g x q t) l) → Ground h i x → ⊥
      given_up gives nor never w =
          let p = by w in
          undone (added g x p.right t) (l ++ (e ∷ [])) (never_join (λ a. a ≡ added g x p.right t) l e [] (nor p.right) (never p.right) tt)
          (since_last h l e b split (added g x p.right t) (GivesUp g t) gives (p.did, p.last))

      -- its REMOVE of the token since the ADD
      pub none_removed : deed e ≡ removed g t → ((q : Right) → Undone (added g x q t) l) → Ground h i x → ⊥
      none_removed is = given_up (inr (inl is)) (λ q a. let z : ◌≡◌ {A = ℕ} 0 1 = cc in omega arith)

      -- its own RESET since the ADD
      pub none_own_reset : deed e ≡ reset g → ((q : Right) → Undone (added g x q t) l) → Ground h i x → ⊥
      none_own_reset is = given_up (inr (inr is)) (λ q a. let z : ◌≡◌ {A = ℕ} 0 1 = cc in omega arith)

      -- its ADD of another space with this token as value since
      pub none_added_again : (y : ℕ) (r : Right) → deed e ≡ added g y r t → x ≢ y → ((q : Right) → Undone (added g x q t) l) → Ground h i x → ⊥
      none_added_again y r is ne = given_up (inl (y, r, is)) (λ q a. ne (cc))

    -- The owner of the space is `o`, and not the guest.
    module _ (o : ℕ) (sole : (p : ℕ) → Owns h p x → p ≡ o) (stranger : o ≢ g) where
      permit : (w : Ground h i x) → PermittedBefore (by w).did.later (by w).did.earlier o g x (by w).right
      permit w =
          let one = sole (by w).owner (by w).owns in
          ⊎_elim (λ q. absurd (stranger (sym one ∙ q))) (λ p. rw one at p) (by w).basis

      -- the PERMIT in the whole record, with no withdrawal from it on
      permit_since : (w : Ground h i x) → Since (Withdraws o x) h (permitted o x g (permit w).right)
      permit_since w =
          let a = (by w).did in
          let p = permit w in (
            record {
              later = a.later ++ (a.event ∷ p.did.later);
              event = p.did.event;
              earlier = p.did.earlier;
              split = a.split ∙ ap (λ (m : List Event). a.later ++ (a.event ∷ m)) p.did.split ∙ sym (append_assoc a.later _ _);
              is = p.did.is;
            },
            never_join (Withdraws o x) a.later a.event p.did.later (added_spares o x g x t (by w).right _ a.is) p.since_add p.since,
          )

      -- no PERMIT of the space to the guest by its owner, whatever others permit
      pub none_permitted : ((q : Right) → Undone (permitted o x g q) h) → Ground h i x → ⊥
      none_permitted never w = undone _ h (never (permit w).right) (permit_since w).0

      -- ADDs with write alone, and no PERMIT with write
      pub none_enough : Undone (added g x Read t) h → Undone (permitted o x g Write) h → Ground h i x → ⊥
      none_enough read never w =
          let right = not_read (by w).right (λ q. undone _ h read (rw q at (by w).did)) in
          undone _ h never (rw (at_least_write (permit w).right (by w).right (permit w).enough right) at (permit_since w).0)

      module _ (l : List Event) (e : Event) (b : List Event) (split : h ≡ l ++ (e ∷ b)) where
        -- the space withdrawn by e, and no PERMIT since
        withdrawn : Withdraws o x (deed e) → ((q : Right) → deed e ≡ permitted o x g q → ⊥) → ((q : Right) → Undone (permitted o x g q) l) → Ground h i x → ⊥
        withdrawn takes nor never w =
            undone _ (l ++ (e ∷ [])) (never_join (λ a. a ≡ permitted o x g (permit w).right) l e [] (nor (permit w).right) (never (permit w).right) tt)
            (since_last h l e b split _ (Withdraws o x) takes (permit_since w))

        -- an ISOLATE of it since the PERMIT
        pub none_isolated : (k : ℕ) → deed e ≡ isolated k x → ((q : Right) → Undone (permitted o x g q) l) → Ground h i x → ⊥
        none_isolated k is = withdrawn (inl (k, is)) (λ q a. let z : ◌≡◌ {A = ℕ} 0 1 = cc in omega arith)

        -- a RESET by the owner since the PERMIT
        pub none_owner_reset : deed e ≡ reset o → ((q : Right) → Undone (permitted o x g q) l) → Ground h i x → ⊥
        none_owner_reset is = withdrawn (inr is) (λ q a. let z : ◌≡◌ {A = ℕ} 0 1 = cc in omega arith)

        -- no ADD later than e and no PERMIT earlier: a PERMIT came after the ADD only
        pub none_permitted_first : ((q : Right) → Undone (added g x q t) l) → ((q : Right) → Undone (permitted o x g q) b) → Ground h i x → ⊥
        none_permitted_first add never w =
            undone _ b (never (permit w).right) (before_it h l e b split _ _ (add (by w).right) (by w).did (permit w).did)
