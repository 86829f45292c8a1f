-- What the code of FETCH and STORE answers and moves is what the model says. Assumes nothing.
use Prim.Native.Nat.{ℕ, ◌+◌, ◌≤◌, ◌<◌}
use mathlib.Core.Bool.{Bool, true, false}
use mathlib.Core.List.{List}
use mathlib.Core.Path.{◌≡◌, refl, sym, ap, ◌∙◌}
use Rattle.std.specs.Prelude.{Ok, Err}
use native.Mathlib.Omega.{arith}
use lib.Dec.{leb, ltb}
use lib.ListN.{length}
use borrow.Author.Tests.{leb-true, ltb-true, ltb-false}
use Rattle.lists.specs.Bytes.{over, part}
use Rattle.lists.specs.Choice.{choose, implies}
use Rattle.lists.proofs.Bytes.{put_run, get_run}
use Rattle.lists.proofs.Choice.{choose_elim, both_right}
use Rattle.model.specs.declared.Answer.{Answer}
use Rattle.model.specs.declared.Answer.TheVariants.{Limit, Done, Addressing, Protection, KeyProtection}
use Rattle.model.specs.declared.Caller.{Caller}
use Rattle.model.specs.declared.Change.TheVariants.{Keep}
use Rattle.model.specs.declared.Kind.TheVariants.{Register, Length}
use Rattle.model.specs.declared.Operation.{Operation}
use Rattle.model.specs.declared.Operation.TheVariants.{Fetch, Store}
use Rattle.model.specs.declared.Reach.{Reach}
use Rattle.model.specs.declared.Space.{Space}
use Rattle.model.specs.declared.State.{State}
use Rattle.model.specs.Arguments.{good_length, arguments, check_all}
use Rattle.model.specs.Calls.{judge, enrols, perform, fetching, storing, target, access, access_at, access_key}
use Rattle.model.specs.Decision.{Decision, Effect, after, fetch, store, refuse, accept, check}
use Rattle.model.specs.Frames.{layout, frame_of, place_of}
use Rattle.model.specs.Keys.{key_permits}
use Rattle.model.specs.Leaves.{scratch_judged, buffer_judged}
use Rattle.model.specs.Replies.{call_of}
use Rattle.model.specs.SoundTest.{sound}
use Rattle.model.specs.Step.{scratch_after, buffer_after}
use Rattle.model.specs.Tables.{space_at}
use Rattle.model.specs.Translation.{Translation}
use Rattle.model.proofs.Rules.{check_yes, check_no}
use Rattle.keys.specs.Guards.{guard_allows}
use Rattle.transfer.specs.Transferred.{RunIn, inside, place_in, fetch_answer, fetched, store_answer, stored}
use Rattle.transfer.proofs.Lending.{read, read_eq, checked, ends}
use Rattle.translation.specs.Translated.{translated_by}
use Rattle.views.specs.declared.View.{View}
use Rattle.asks.specs.Asks.{asks_by, moving}
use Rattle.views.specs.Views.{view_of}
use Rattle.views.proofs.Judged.{judged_bad, judged_good}
use Rattle.access.specs.Access.{reached_by, Fetches, Stores}
use Rattle.access.proofs.Reach.{aimed, reached_space, guard_reached}

abbrev space : State → (slot : ℕ) → Space
space s u = space_at s.spaces u

-- Either call: here and below w tells a store from a fetch.
abbrev call : Bool → (register address : ℕ) → Operation
call false r a = Fetch r a
call true r a = Store r a

abbrev effect : Bool → (address slot : ℕ) → Effect
effect false a u = fetch u a
effect true a u = store u a

-- the bytes that it may change, the lent buffer's or those of scratch: before it, after a decision, and after a move from or to a
-- place in scratch
abbrev before : Bool → (m b : List ℕ) → List ℕ
before false m b = b
before true m b = m

abbrev left : Bool → State → (m b : List ℕ) → Decision → List ℕ
left false s m b d = buffer_after (after s d) d.effect m b
left true s m b d = scratch_after (after s d) d.effect m b

abbrev moved : Bool → (place : ℕ) → (m b : List ℕ) → List ℕ
moved false p m b = part m p (length b)
moved true p m b = over m p b

left_refused : (w : Bool) (s : State) (m b : List ℕ) (z : Answer) → before w m b ≡ left w s m b (refuse z)
unfolding buffer_after scratch_after
left_refused false s m b z = refl
left_refused true s m b z = refl

-- what it comes to on what it has seen: as `Fetches` and `Stores` say it
record Accesses (w : Bool) (v : View) (register address : ℕ) (m b : List ℕ) (x : Answer) (y : List ℕ) : Type 0 where
  is : (s : State) (c : Caller) → sound s ≡ true → v ≡ view_of s (asks_by c.guest (call w register address))
      → (x ≡ (judge s (call_of c (call w register address)) (length b)).answer)
      × (y ≡ left w s m b (judge s (call_of c (call w register address)) (length b)))

-- the bytes of the space in slot u from an address on are one run of scratch
module _ (s : State) (u a : ℕ) (m b : List ℕ) (run : RunIn (space s u) m) (t : inside (space s u) a (length b) ≡ true) where
  one_run : (k : ℕ) → place_of (layout s) u (a + k) ≡ place_in (space s u) a + k
  unfolding place_of frame_of
  one_run k = omega arith

  left_moved : (w : Bool) → moved w (place_in (space s u) a) m b ≡ left w s m b (accept 0 Keep (effect w a u))
  unfolding buffer_after scratch_after
  left_moved false = sym (get_run (place_of (layout s) u) a (place_in (space s u) a) (length b) m (λ k _. one_run k) (ends (space s u) a (length b) m run t))
  left_moved true = sym (put_run (place_of (layout s) u) a (place_in (space s u) a) b m (λ k _. one_run k) (ends (space s u) a (length b) m run t))

-- what the call asks for, its checks, and what it does once they have passed
plain : (w : Bool) (r a : ℕ) → enrols (call w r a) ≡ false
unfolding enrols
plain false r a = refl
plain true r a = refl

asks : (w : Bool) (r a g : ℕ) → asks_by g (call w r a) ≡ moving g r a
unfolding asks_by
asks false r a g = refl
asks true r a g = refl

argued : (w : Bool) (r a : ℕ) (s : State) (c : Caller) (n : ℕ) (d : Decision)
    → check_all (arguments s.guests c (call w r a) n) d ≡ check (leb r 15) (Limit Register 2) (check (good_length n) (Limit Length 4) d)
unfolding arguments check_all
argued false r a s c n d = refl
argued true r a s c n d = refl

performed : (w : Bool) (r a : ℕ) (s : State) (c : Caller) (n : ℕ) → perform s c (call w r a) n ≡ access s (access_key s c) a n w (effect w a) (target s c r)
unfolding perform fetching storing
performed false r a s c n = refl
performed true r a s c n = refl

module _ (w : Bool) (r a : ℕ) (s : State) (c : Caller) (n : ℕ) where
  abbrev o : Operation
  o = call w r a

  abbrev accessed : Translation → Decision
  accessed = access s (access_key s c) a n w (effect w a)

  abbrev Judged : Translation → Type 0
  Judged x = judge s (call_of c o) n ≡ accessed x

  -- what is judged, by what the register reaches
  judged : (v : View) → v ≡ view_of s (asks_by c.guest o) → Judged (reached_by v r n)
  unfolding reached_by access target
  judged v e =
      choose_elim Judged (ltb v.place 8) _ _
      (λ p.
      let l = ltb-true v.place 8 p in
      let seen = judged_good s c o n v (plain w r a) e l ∙ argued w r a s c n (perform s c o n) in
      choose_elim Judged (leb r 15) _ _
      (λ k.
      choose_elim Judged (good_length n) _ _
      (λ g.
      let h = aimed s c.guest r a o v (asks w r a c.guest) e l (leb-true r 15 k) _ refl in
      seen ∙ check_yes _ _ k ∙ check_yes _ _ g ∙ performed w r a s c n ∙ ap accessed (sym h.is))
      (λ g. seen ∙ check_yes _ _ k ∙ check_no _ _ g))
      (λ k. seen ∙ check_no _ _ k))
      (λ p. judged_bad s c o n v (plain w r a) e (ltb-false v.place 8 p))

-- what is read off the three checks, and off a decision by them
read_checks : {A : Type 0} (F : Decision → A) (i r k : Bool) (d : Decision)
    → read i r k (F d) (λ z. F (refuse z)) ≡ F (check i Addressing (check r Protection (check k KeyProtection d)))
unfolding choose check
read_checks F true true true d = refl
read_checks F true true false d = refl
read_checks F true false k d = refl
read_checks F false r k d = refl

-- what holds where a space is reached
record Reaching (v : View) (r n : ℕ) (x : Reach) : Type 0 where
  place : v.place < 8
  register : r ≤ 15
  length : good_length n ≡ true
  is : Ok x ≡ translated_by v.slot v.guest.list v.entry v.token

chosen : (i j k : Bool) (t : Translation) (e f g : Answer) (x : Reach) → Ok x ≡ choose i (choose j (choose k t (Err e)) (Err f)) (Err g)
    → (i ≡ true) × ((j ≡ true) × ((k ≡ true) × (Ok x ≡ t)))
unfolding choose
chosen true true true t e f g x q = (refl, (refl, (refl, q)))
chosen true true false t e f g x q = absurd (cc)
chosen true false k t e f g x q = absurd (cc)
chosen false j k t e f g x q = absurd (cc)

reaching : (v : View) (r n : ℕ) (x : Reach) → Ok x ≡ reached_by v r n → Reaching v r n x
unfolding reached_by
reaching v r n x q =
    let c = chosen (ltb v.place 8) (leb r 15) (good_length n) _ _ _ _ x q in
    record { place = ltb-true v.place 8 c.0; register = leb-true r 15 c.1.0; length = c.1.1.0; is = c.1.1.1 }

pub few : (v : View) (r n : ℕ) (x : Reach) → Ok x ≡ reached_by v r n → n ≤ 256
few v r n x q = leb-true n 256 (both_right (leb 1 n) _ (reaching v r n x q).length)

module _ (w : Bool) (v : View) (r a : ℕ) (m b : List ℕ) where
  -- a refusal moves nothing
  refused : (z : Answer) → Err z ≡ reached_by v r (length b) → Accesses w v r a m b z (before w m b)
  unfolding access
  refused z q = record {
    is = λ s c ok e.
        let j = judged w r a s c (length b) v e ∙ ap (accessed w r a s c (length b)) (sym q) in
        (ap (λ d. d.answer) (sym j), left_refused w s m b z ∙ ap (left w s m b) (sym j));
  }

  module _ (x : Reach) (q : Ok x ≡ reached_by v r (length b)) (run : RunIn v.space m) where
    h : Reaching v r (length b) x
    h = reaching v r (length b) x q

    abbrev reads : {A : Type 0} → Space → A → (Answer → A) → A
    reads x' = checked x' x.right v.guard w a (length b)

    -- what is read off the decision, by the checks 17, 18 and 22
    module _ (s : State) (c : Caller) (ok : sound s ≡ true) (e : v ≡ view_of s (asks_by c.guest (call w r a))) where
      here : v.space ≡ space s x.slot
      here = reached_space s c.guest r a (call w r a) v (asks w r a c.guest) e h.place h.register _ h.is ok x.slot x.right refl

      keyed : inside (space s x.slot) a (length b) ≡ true → guard_allows v.guard w a (length b) ≡ key_permits s w (access_key s c) x.slot a (length b)
      keyed = guard_reached s c.guest r a (call w r a) v (asks w r a c.guest) e h.place h.register _ h.is ok x.slot x.right refl (length b) h.length w

      decided : judge s (call_of c (call w r a)) (length b) ≡ access_at s (access_key s c) a (length b) w (effect w a x.slot) x.slot x.right
      unfolding access
      decided = judged w r a s c (length b) v e ∙ ap (accessed w r a s c (length b)) (sym q)

      module _ {A : Type 0} (F : Decision → A) (p : A) (g : Answer → A) (put : inside (space s x.slot) a (length b) ≡ true → p ≡ F (accept 0 Keep (effect w a x.slot))) (stop : (z : Answer) → g z ≡ F (refuse z)) where
        read_off : (y : A) → y ≡ reads v.space p g → y ≡ F (judge s (call_of c (call w r a)) (length b))
        unfolding access_at
        read_off y k = k ∙ ap (λ x'. reads x' p g) here ∙ read_eq _ _ _ _ _ _ _ _ keyed put stop ∙ read_checks F _ _ _ _ ∙ ap F (sym decided)

    reached : (z : Answer) (y : List ℕ) → z ≡ reads v.space (Done 0) (λ z. z) → y ≡ reads v.space (moved w (place_in v.space a) m b) (λ _. before w m b)
        → Accesses w v r a m b z y
    reached z y i j = record {
      is = λ s c ok e.
          let here = here s c ok e in (
            read_off s c ok e (λ d. d.answer) (Done 0) (λ z. z) (λ _. refl) (λ _. refl) z i,
            read_off s c ok e (left w s m b) _ (λ _. before w m b)
                (λ t. ap (λ x'. moved w (place_in x' a) m b) here ∙ left_moved s x.slot a m b (rw here at run) t w)
                (left_refused w s m b) y j,
          );
    }

-- For search: what the code has come to on what it has seen.
module _ (v : View) (r a : ℕ) (m b : List ℕ) where
  pub fetch_refused : (z : Answer) → Err z ≡ reached_by v r (length b) → Fetches v r a m b z b
  unfolding buffer_judged
  fetch_refused z q = record { is = (refused false v r a m b z q).is }

  pub store_refused : (z : Answer) → Err z ≡ reached_by v r (length b) → Stores v r a m b z m
  unfolding scratch_judged
  store_refused z q = record { is = (refused true v r a m b z q).is }

  module _ (x : Reach) (q : Ok x ≡ reached_by v r (length b)) (run : RunIn v.space m) (z : Answer) (y : List ℕ) where
    pub fetch_reached : z ≡ fetch_answer v.space v.guard a (length b) → y ≡ fetched v.space v.guard a m b → Fetches v r a m b z y
    unfolding fetch_answer fetched buffer_judged choose implies
    fetch_reached i j = record { is = (reached false v r a m b x q run z y i j).is }

    pub store_reached : z ≡ store_answer v.space x.right v.guard a (length b) → y ≡ stored v.space x.right v.guard a m b → Stores v r a m b z y
    unfolding store_answer stored scratch_judged implies
    store_reached i j = record { is = (reached true v r a m b x q run z y i j).is }
