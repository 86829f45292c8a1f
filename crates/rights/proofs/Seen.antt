-- What PERMIT, ISOLATE, QUERY, ADD and REMOVE decide on what they have seen is what the model says. Assumes nothing.
use Prim.Native.Nat.{ℕ, ◌+◌, ◌-◌, ◌*◌, ◌%◌, ◌≤◌, ◌<◌}
use mathlib.Core.Bool.{Bool, true, false, not}
use mathlib.Core.Logic.{⊎_elim}
use mathlib.Core.Path.{◌≡◌, refl, sym, ap, ap₂, subst, ◌∙◌}
use native.Mathlib.Omega.{arith}
use lib.Dec.{leb, ltb, eqb}
use lib.ListN.{get_or}
use borrow.Author.Tests.{ltb-true, le-ltb, lt-ltb, eq-eqb, ne_eqb}
use Rattle.std.specs.Prelude.{Result, Ok, Err, IsErrAnd}
use Rattle.lists.specs.Choice.{both, either}
use Rattle.lists.proofs.Choice.{both_intro, both_no, both_not, either_left, either_none, either_right, not_of, true_or_false}
use Rattle.lists.proofs.Rules.{not_yes, not_no, test_no, test_yes}
use Rattle.model.specs.declared.Answer.{Answer}
use Rattle.model.specs.declared.Answer.TheVariants.{Done, BadCaller, Limit, NoSpace, NoSharing, NotPermitted, ListFull, AletSpecification, AlenTranslation}
use Rattle.model.specs.declared.Caller.{Caller}
use Rattle.model.specs.declared.Change.TheVariants.{SetPermit, SetEntry, IsolateSpace}
use Rattle.model.specs.declared.Entry.{Entry}
use Rattle.model.specs.declared.Grant.{Grant}
use Rattle.model.specs.declared.Guest.{Guest}
use Rattle.model.specs.declared.Kind.TheVariants.{OtherGuest, Name}
use Rattle.model.specs.declared.Operation.{Operation}
use Rattle.model.specs.declared.Operation.TheVariants.{Permit, Isolate, Query, Add, Remove}
use Rattle.model.specs.declared.Permit.{Permit as PermitRow}
use Rattle.model.specs.declared.Right.{Right}
use Rattle.model.specs.declared.Right.TheVariants.{Read}
use Rattle.model.specs.declared.Space.{Space}
use Rattle.model.specs.declared.Standing.TheVariants.{Valid}
use Rattle.model.specs.declared.State.{State}
use Rattle.model.specs.Arguments.{good_other, arguments, check_all}
use Rattle.model.specs.Calls.{judge, enrols, perform, permit, isolate, query, add, remove, entitled}
use Rattle.model.specs.Changes.{allows, raised, released, applied}
use Rattle.model.specs.Decision.{Decision, check, done, refuse}
use Rattle.model.specs.Names.{good_name}
use Rattle.model.specs.Replies.{reply, replied, call_of}
use Rattle.model.specs.Searches.{enrolled, slot_of, slot_named, free_entry}
use Rattle.model.specs.SoundTest.{sound}
use Rattle.model.specs.Tables.{no_permit, unused_entry, space_at, guest_at, guest_place, permit_place, grant_at, entry_at, entry_place}
use Rattle.model.specs.Tokens.{malformed, assigned, entry_number}
use Rattle.model.proofs.Rules.{check_yes, check_no, place_no, place_yes, place_is}
use Rattle.model.proofs.SoundTest.{sound_decides}
use Rattle.model.proofs.Tokens.{formed}
use Rattle.entries.specs.Assigned.{assigned_to}
use Rattle.lookup.specs.Owned.{owned_at}
use Rattle.lookup.specs.Rows.{row_of}
use Rattle.lookup.proofs.Rows.{enrolled_row}
use Rattle.edits.specs.declared.Edit.TheVariants.{Nothing, Permit as PermitEdit, Entry as EntryEdit}
use Rattle.edits.specs.declared.Granted.{Granted}
use Rattle.edits.specs.Edits.{change_of, edited, Fits, Decided}
use Rattle.rights.specs.Isolated.{IsolatedTo, isolate_answer, SeenIsolated}
use Rattle.sound.specs.declared.Sound.{Sound}
use Rattle.edits.proofs.Kept.{decided_refused, decided_done}
use Rattle.translation.specs.Translated.{token_place}
use Rattle.translation.proofs.Translated.{named_place}
use Rattle.views.specs.declared.View.{View}
use Rattle.asks.specs.Asks.{asks_by}
use Rattle.views.specs.Token.{token_by}
use Rattle.views.specs.Views.{view_of}
use Rattle.asks.proofs.Told.{asks_caller}
use Rattle.views.proofs.Judged.{judged_bad, judged_good, place_own, row_own, seen_caller, seen_enrolled, seen_guest}
use Rattle.views.proofs.Looked.{space_slot, permit_slot_lem, permit_finds, isolate_finds, add_finds, query_finds, permit_other}
use Rattle.views.proofs.Seeking.{Shows, Seeks, slot_low, stops, slot_is, goes_on}
use Rattle.views.proofs.Added.{add_free, add_unused}

-- whether a call may have the space that it has seen, where the permit is its caller's
entitled_seen : (s : State) (g : ℕ) (o : Operation) (v : View) (e : v ≡ view_of s (asks_by g o)) → (asks_by g o).other ≡ g → v.place < 8 → v.slot < 32 → (r : Right)
    → either (eqb v.space.owner (v.place + 1)) (allows v.permit.grant r) ≡ entitled s g v.slot r
unfolding entitled
entitled_seen s g o v e own l low r =
    let a = asks_by g o in
    ap₂ (λ (u : Space) (w : PermitRow). either (eqb u.owner (v.place + 1)) (allows w.grant r)) (space_slot s a v e low) (permit_slot_lem s a v e low)
    ∙ ap₂ (λ h j. either (eqb (space_at s.spaces v.slot).owner h) (allows (get_or s.permits (v.slot * 8 + j) no_permit).grant r))
    (seen_caller s g o v e l) (ap row_of (own ∙ sym (asks_caller g o)) ∙ row_own s g o v e l)

-- a number below another is below what is no less
below_both : (k n m : ℕ) → n ≤ m → both (ltb k m) (ltb k n) ≡ ltb k n
below_both k n m h = ⊎_elim yes_below (λ f. both_not (ltb k m) _ f ∙ sym f) (true_or_false (ltb k n))
  where
    yes_below : ltb k n ≡ true → both (ltb k m) (ltb k n) ≡ ltb k n
    yes_below t = let l = ltb-true k n t in both_intro _ _ (lt-ltb k m (omega arith)) t ∙ sym t

-- the slot of a space that a guest owns, and the places of its permits, fit a byte
module _ (u k g : ℕ) (x : Space) (o : Result ℕ Answer) (is : o ≡ owned_at k x g) (e : o ≡ Ok u) where
  pub slot_byte : u * 8 < 256
  slot_byte = omega (arith, slot_low u k g x o is e)

  pub permit_byte : (to : ℕ) → to < 8 → u * 8 + to < 256
  permit_byte to l = omega (arith, slot_low u k g x o is e)

-- PERMIT
module _ (v : View) (i h : ℕ) (r : Right) (l : v.place < 8) (g : ℕ) (own : g ≡ v.place + 1) where
  pub permit_self : h ≡ g → Decided v (Permit i h r) (edited (Err (Limit OtherGuest 3)))
  unfolding enrols arguments check_all
  permit_self q =
      decided_refused v (Permit i h r) _
      (λ s c ok e. judged_good s c (Permit i h r) 0 v refl e l
      ∙ check_no _ _ (both_not (enrolled s.guests h) _ (not_yes _ (eq-eqb h c.guest (q ∙ own ∙ seen_caller s c.guest (Permit i h r) v e l)))))

  pub permit_unknown : 8 ≤ v.other → Decided v (Permit i h r) (edited (Err (Limit OtherGuest 3)))
  unfolding enrols arguments check_all
  permit_unknown q =
      decided_refused v (Permit i h r) _
      (λ s c ok e. judged_good s c (Permit i h r) 0 v refl e l
      ∙ check_no _ _ (both_no _ (place_no v.other s.guests h (permit_other s c.guest i h r v e) q)))

  module _ (n : h ≡ g → ⊥) (m : v.other < 8) (o : Result ℕ Answer) (found : o ≡ owned_at v.slot v.space g) where
    is : o ≡ owned_at v.slot v.space (v.place + 1)
    is = found ∙ ap (owned_at v.slot v.space) own

    -- check 2 and that of h have passed
    other_good : (s : State) (c : Caller) → Shows v (Permit i h r) s c → good_other s.guests c h ≡ true
    other_good s c e =
        both_intro _ _ (place_yes v.other s.guests h (permit_other s c.guest i h r v e) m)
        (not_no _ (ne_eqb h c.guest (λ q. n (q ∙ sym (own ∙ seen_caller s c.guest (Permit i h r) v e l)))))

    -- what follows the checks 5 and 6
    shared : State → Caller → Decision
    shared s c =
        check (guest_at s.guests c.guest).share NoSharing
        (done (SetPermit (permit_place (slot_of s.spaces i) h) (record { grant = raised (grant_at s.permits (slot_of s.spaces i) h) r })))

    permit_seeks : Seeks v (Permit i h r) i l o is shared
    unfolding enrols arguments check_all perform permit shared
    permit_seeks = record {
      finds = λ s c e. permit_finds s c.guest i v h r e;
      judged = λ s c e. judged_good s c (Permit i h r) 0 v refl e l ∙ check_yes _ _ (other_good s c e);
    }

    pub permit_refused : (a : Answer) → o ≡ Err a → Decided v (Permit i h r) (edited (Err a))
    permit_refused a q = decided_refused v (Permit i h r) a (λ s c ok e. stops v (Permit i h r) i l o is shared permit_seeks a q s c e)

    module _ (u : ℕ) (q : o ≡ Ok u) where
      share_is : (s : State) (c : Caller) → Shows v (Permit i h r) s c → v.guest.share ≡ (guest_at s.guests c.guest).share
      share_is s c e = ap (λ (g : Guest). g.share) (seen_guest s c.guest (Permit i h r) v e l)

      judged_permit : (s : State) (c : Caller) → Shows v (Permit i h r) s c → judge s (call_of c (Permit i h r)) 0 ≡ shared s c
      judged_permit = goes_on v (Permit i h r) i l o is shared permit_seeks u q

      pub permit_unshared : not v.guest.share ≡ true → Decided v (Permit i h r) (edited (Err NoSharing))
      unfolding shared
      permit_unshared y =
          decided_refused v (Permit i h r) _ (λ s c ok e. judged_permit s c e ∙ check_no _ _ (test_no _ _ (share_is s c e) y))

      its_slot : (s : State) (c : Caller) → Shows v (Permit i h r) s c → u ≡ slot_of s.spaces i
      its_slot = slot_is v (Permit i h r) i l o is shared permit_seeks u q

      -- the permit is the other guest's for that space
      grant_is : (s : State) (c : Caller) → Shows v (Permit i h r) s c → v.permit.grant ≡ grant_at s.permits (slot_of s.spaces i) h
      unfolding asks_by
      grant_is s c e =
          let found = permit_finds s c.guest i v h r e in
          let low : v.slot < 32 = omega (arith, found, its_slot s c e, slot_low u v.slot (v.place + 1) v.space o is q) in
          ap (λ (z : PermitRow). z.grant) (permit_slot_lem s (asks_by c.guest (Permit i h r)) v e low)
          ∙ ap₂ (λ k j. (get_or s.permits (k * 8 + j) no_permit).grant) found (enrolled_row s.guests h v.other (permit_other s c.guest i h r v e) m)

      pub permit_done : (y : Grant) (x : Granted) → not v.guest.share ≡ false → y ≡ raised v.permit.grant r
          → x ≡ record { value = 0; edit = PermitEdit (u * 8 + v.other) (record { grant = y }) } → Decided v (Permit i h r) (edited (Ok x))
      unfolding shared change_of Fits
      permit_done y x z w p =
          decided_done v (Permit i h r) x _ p tt
          (λ s c ok e. rw (judged_permit s c e ∙ check_yes _ _ (test_yes _ _ (share_is s c e) z))
          (record {
            answer = refl;
            change = ap₂ (λ k (g : Grant). SetPermit k (record { grant = g }))
                (ap₂ (λ a b. a * 8 + b) (its_slot s c e) (place_is v.other s.guests h (permit_other s c.guest i h r v e) m))
                (w ∙ ap (λ g. raised g r) (grant_is s c e));
          }))

-- ISOLATE
pub isolate_bad : (v : View) (i : ℕ) (r : Result ℕ Answer) (a : Answer) → IsErrAnd r (λ e. e ≡ a) → a ≡ BadCaller → 8 ≤ v.place → IsolatedTo v i r
unfolding enrols
isolate_bad v i (Ok _) a q bad g = absurd q
isolate_bad v i (Err e) a q bad g = record { is = λ s c ok seen. judged_bad s c (Isolate i) 0 v refl seen g ∙ ap refuse (sym (q ∙ bad)) }

module _ (v : View) (i : ℕ) (l : v.place < 8) (g : ℕ) (own : g ≡ v.place + 1) (o : Result ℕ Answer) (found : o ≡ owned_at v.slot v.space g) where
  owned : o ≡ owned_at v.slot v.space (v.place + 1)
  owned = found ∙ ap (owned_at v.slot v.space) own

  closes : State → Caller → Decision
  closes s c = done (IsolateSpace (slot_of s.spaces i))

  isolate_seeks : Seeks v (Isolate i) i l o owned closes
  unfolding enrols arguments check_all perform isolate closes
  isolate_seeks = record {
    finds = λ s c e. isolate_finds s c.guest i v e;
    judged = λ s c e. judged_good s c (Isolate i) 0 v refl e l;
  }

  pub isolate_told : IsolatedTo v i o
  unfolding closes
  isolate_told = go o refl
    where
      go : (w : Result ℕ Answer) → o ≡ w → IsolatedTo v i w
      go (Err a) q = record { is = λ s c ok e. stops v (Isolate i) i l o owned closes isolate_seeks a q s c e }
      go (Ok u) q = record {
        low = slot_low u v.slot (v.place + 1) v.space o owned q;
        decided = record {
          is = λ s c ok e.
              goes_on v (Isolate i) i l o owned closes isolate_seeks u q s c e ∙ ap (λ w. done (IsolateSpace w)) (sym (slot_is v (Isolate i) i l o owned closes isolate_seeks u q s c e));
        };
      }

-- on a sound state
module _ (s : State) (c : Caller) (i : ℕ) (v : View) (o : Result ℕ Answer) (ok : sound s ≡ true) (q : v ≡ view_of s (asks_by c.guest (Isolate i))) (t : IsolatedTo v i o) where
  told_as : (w : Result ℕ Answer) → o ≡ w → IsolatedTo v i w
  told_as w e = subst (IsolatedTo v i) e t

  pub isolate_refused : (x : Answer) → o ≡ Err x → reply x s ≡ replied s (judge s (call_of c (Isolate i)) 0)
  unfolding replied
  isolate_refused x e = ap (replied s) (sym ((told_as (Err x) e).is s c ok q))

  pub isolate_low : (u : ℕ) → o ≡ Ok u → u < 32
  isolate_low u e = (told_as (Ok u) e).low

  pub isolate_done : (u : ℕ) (t : State) → o ≡ Ok u → t ≡ applied s (IsolateSpace u) → reply (Done 0) t ≡ replied s (judge s (call_of c (Isolate i)) 0)
  unfolding replied
  isolate_done u t e y = ap (reply (Done 0)) y ∙ ap (replied s) (sym ((told_as (Ok u) e).decided.is s c ok q))

module _ (before : Sound) (c : Caller) (i : ℕ) (v : View) (o : Result ℕ Answer) (q : v ≡ view_of before.state.now (asks_by c.guest (Isolate i))) (t : IsolatedTo v i o) where
  seen_as : (a : Answer) → a ≡ isolate_answer o → SeenIsolated before c i a
  seen_as a e = record { decision = o; decided = rw (← q) t; answer = e }

  pub isolate_seen_refused : (a : Answer) → o ≡ Err a → SeenIsolated before c i a
  isolate_seen_refused a e = seen_as a (ap isolate_answer (sym e))

  pub isolate_seen_done : (u : ℕ) → o ≡ Ok u → SeenIsolated before c i (Done 0)
  isolate_seen_done u e = seen_as (Done 0) (ap isolate_answer (sym e))

-- QUERY
module _ (v : View) (o n : ℕ) (l : v.place < 8) (a : Bool) (ys : a ≡ both (leb 1 o) (leb o 8)) where
  pub query_owner : not a ≡ true → Decided v (Query o n) (edited (Err (Limit OtherGuest 2)))
  unfolding enrols arguments check_all
  query_owner q = decided_refused v (Query o n) _ (λ s c ok e. judged_good s c (Query o n) 0 v refl e l ∙ check_no _ _ (test_no a _ ys q))

  module _ (y : not a ≡ false) (b : Bool) (bs : b ≡ good_name n) where
    pub query_name : not b ≡ true → Decided v (Query o n) (edited (Err (Limit Name 3)))
    unfolding enrols arguments check_all
    query_name q =
        decided_refused v (Query o n) _
        (λ s c ok e. judged_good s c (Query o n) 0 v refl e l ∙ check_yes _ _ (test_yes a _ ys y) ∙ check_no _ _ (test_no b _ bs q))

    module _ (z : not b ≡ false) where
      judged_query : (s : State) (c : Caller) → v ≡ view_of s (asks_by c.guest (Query o n)) → judge s (call_of c (Query o n)) 0 ≡ query s c.guest o n
      unfolding enrols arguments check_all perform
      judged_query s c e = judged_good s c (Query o n) 0 v refl e l ∙ check_yes _ _ (test_yes a _ ys y) ∙ check_yes _ _ (test_yes b _ bs z)

      pub query_none : 32 ≤ v.slot → Decided v (Query o n) (edited (Err NoSpace))
      unfolding query
      query_none q =
          decided_refused v (Query o n) _
          (λ s c ok e. judged_query s c e ∙ check_no _ _ (both_no _ (rw (← query_finds s c.guest o n v e) (le-ltb v.slot 32 q))))

      module _ (low : v.slot < 32) (g : ℕ) (own : g ≡ v.place + 1) (t : Bool) (ts : t ≡ either (eqb v.space.owner g) (allows v.permit.grant Read)) where
        entitled_is : (s : State) (c : Caller) → v ≡ view_of s (asks_by c.guest (Query o n)) → t ≡ entitled s c.guest (slot_named s.spaces o n) Read
        unfolding asks_by
        entitled_is s c e =
            ts
            ∙ ap (λ k. either (eqb v.space.owner k) (allows v.permit.grant Read)) own
            ∙ entitled_seen s c.guest (Query o n) v e refl l low Read
            ∙ ap (λ u. entitled s c.guest u Read) (query_finds s c.guest o n v e)

        pub query_not : not t ≡ true → Decided v (Query o n) (edited (Err NoSpace))
        unfolding query
        query_not q =
            decided_refused v (Query o n) _ (λ s c ok e. judged_query s c e ∙ check_no _ _ (both_not _ _ (test_no t _ (entitled_is s c e) q)))

        pub query_done : not t ≡ false → Decided v (Query o n) (edited (Ok (record { value = v.space.id; edit = Nothing })))
        unfolding query change_of Fits
        query_done q = record {
          fits = tt;
          decides = λ s c ok e. rw (judged_query s c e ∙ check_yes _ _ (both_intro _ _ (rw (← query_finds s c.guest o n v e) (lt-ltb v.slot 32 low)) (test_yes t _ (entitled_is s c e) q)))
              (record {
                answer = ap (λ (u : Space). Done u.id) (space_slot s (asks_by c.guest (Query o n)) v e low)
                    ∙ ap (λ k. Done (space_at s.spaces k).id) (query_finds s c.guest o n v e);
                change = refl;
              });
        }

-- ADD
module _ (v : View) (i : ℕ) (r : Right) (l : v.place < 8) where
  judged_add : (s : State) (c : Caller) → v ≡ view_of s (asks_by c.guest (Add i r)) → judge s (call_of c (Add i r)) 0 ≡ add s c.guest i r
  unfolding enrols arguments check_all perform
  judged_add s c e = judged_good s c (Add i r) 0 v refl e l

  pub add_none : 32 ≤ v.slot → Decided v (Add i r) (edited (Err NoSpace))
  unfolding add
  add_none q =
      decided_refused v (Add i r) _ (λ s c ok e. judged_add s c e ∙ check_no _ _ (rw (← add_finds s c.guest i v r e) (le-ltb v.slot 32 q)))

  module _ (low : v.slot < 32) (g : ℕ) (own : g ≡ v.place + 1) (t : Bool) (ts : t ≡ either (eqb v.space.owner g) (allows v.permit.grant r)) where
    slot_found : (s : State) (c : Caller) → v ≡ view_of s (asks_by c.guest (Add i r)) → ltb (slot_of s.spaces i) 32 ≡ true
    slot_found s c e = rw (← add_finds s c.guest i v r e) (lt-ltb v.slot 32 low)

    may_add : (s : State) (c : Caller) → v ≡ view_of s (asks_by c.guest (Add i r)) → t ≡ entitled s c.guest (slot_of s.spaces i) r
    unfolding asks_by
    may_add s c e =
        ts
        ∙ ap (λ k. either (eqb v.space.owner k) (allows v.permit.grant r)) own
        ∙ entitled_seen s c.guest (Add i r) v e refl l low r
        ∙ ap (λ u. entitled s c.guest u r) (add_finds s c.guest i v r e)

    pub add_not : not t ≡ true → Decided v (Add i r) (edited (Err NotPermitted))
    unfolding add
    add_not q =
        decided_refused v (Add i r) _ (λ s c ok e. judged_add s c e ∙ check_yes _ _ (slot_found s c e) ∙ check_no _ _ (test_no t _ (may_add s c e) q))

    module _ (y : not t ≡ false) where
      -- in a sound state every entry of the list stands in the table
      room_is : (s : State) (c : Caller) → sound s ≡ true → v ≡ view_of s (asks_by c.guest (Add i r))
          → both (ltb v.free 30) (ltb v.free v.guest.list) ≡ ltb (free_entry s.entries c.guest (guest_at s.guests c.guest).list) (guest_at s.guests c.guest).list
      room_is s c ok e =
          let n = (guest_at s.guests c.guest).list in
          ap₂ (λ k (g : Guest). both (ltb k 30) (ltb k g.list)) (add_free s c.guest i r v e l ok) (seen_guest s c.guest (Add i r) v e l)
          ∙ below_both (free_entry s.entries c.guest n) n 30 (((sound_decides s).to ok).guests.list_high c.guest (seen_enrolled s c.guest (Add i r) v e l))

      pub add_full : both (ltb v.free 30) (ltb v.free v.guest.list) ≡ false → Decided v (Add i r) (edited (Err ListFull))
      unfolding add
      add_full q =
          decided_refused v (Add i r) _
          (λ s c ok e. judged_add s c e ∙ check_yes _ _ (slot_found s c e) ∙ check_yes _ _ (test_yes t _ (may_add s c e) y) ∙ check_no _ _ (sym (room_is s c ok e) ∙ q))

      module _ (free_low : v.free < 30) (inside : v.free < v.guest.list) where
        pub add_done : (w f at : ℕ) → w ≡ v.unused.sequence → f ≡ v.free → at ≡ v.place → Decided v (Add i r) (edited (Ok (record {
          value = w * 65536 + (f + 2);
          edit = EntryEdit (at * 30 + v.free) (record { standing = Valid v.slot r; sequence = v.unused.sequence });
        })))
        unfolding add change_of Fits
        add_done w f at ws fs ats = rw (ws, fs, ats) (record {
          fits = omega (arith, free_low);
          decides = λ s c ok e.
              let k = add_free s c.guest i r v e l ok in
              let q : v.unused.sequence ≡ (entry_at s.entries c.guest (free_entry s.entries c.guest (guest_at s.guests c.guest).list + 2)).sequence =
              ap (λ (n : Entry). n.sequence) (add_unused s c.guest i r v e l ok free_low) in
              let place : v.place * 30 + v.free ≡ entry_place c.guest (free_entry s.entries c.guest (guest_at s.guests c.guest).list + 2) =
              omega (arith, k, place_own s c.guest (Add i r) v e l) in
              rw
              (judged_add s c e
              ∙ check_yes _ _ (slot_found s c e)
              ∙ check_yes _ _ (test_yes t _ (may_add s c e) y)
              ∙ check_yes _ _ (sym (room_is s c ok e) ∙ both_intro _ _ (lt-ltb v.free 30 free_low) (lt-ltb v.free _ inside)))
              (record {
                answer = ap₂ (λ a n. Done (a * 65536 + (n + 2))) q k;
                change = ap₂ (λ a (n : Entry). SetEntry a n) place
                    (ap₂ (λ u a. record { standing = Valid u r; sequence = a }) (add_finds s c.guest i v r e) q);
              });
        })

-- REMOVE
module _ (v : View) (t : ℕ) (l : v.place < 8) where
  judged_remove : (s : State) (c : Caller) → v ≡ view_of s (asks_by c.guest (Remove t)) → judge s (call_of c (Remove t)) 0 ≡ remove s c.guest t
  unfolding enrols arguments check_all perform
  judged_remove s c e = judged_good s c (Remove t) 0 v refl e l

  pub remove_zero : t ≡ 0 → Decided v (Remove t) (edited (Err AletSpecification))
  unfolding remove
  remove_zero q =
      decided_refused v (Remove t) _ (λ s c ok e. judged_remove s c e ∙ check_no _ _ (not_yes _ (either_left _ (malformed t) (eq-eqb t 0 q))))

  module _ (z : t ≡ 0 → ⊥) (m : Bool) (ms : m ≡ malformed t) where
    pub remove_malformed : m ≡ true → Decided v (Remove t) (edited (Err AletSpecification))
    unfolding remove
    remove_malformed q =
        decided_refused v (Remove t) _ (λ s c ok e. judged_remove s c e ∙ check_no _ _ (not_yes _ (either_right (eqb t 0) _ (sym ms ∙ q))))

    module _ (f : m ≡ false) (b : Bool) (bs : b ≡ assigned_to v.entry v.guest.list t) where
      formed_token : not (either (eqb t 0) (malformed t)) ≡ true
      formed_token = not_of _ (either_none _ _ (ne_eqb t 0 z) (sym ms ∙ f))

      -- the entry is the one that the token names
      entry_is : (s : State) (c : Caller) → v ≡ view_of s (asks_by c.guest (Remove t)) → v.entry ≡ entry_at s.entries c.guest (entry_number t)
      unfolding view_of asks_by token_by
      entry_is s c e =
          ap (λ (y : View). y.entry) e
          ∙ ap (λ k. get_or s.entries k unused_entry)
          (ap (λ k. token_place k t) (row_own s c.guest (Remove t) v e l) ∙ named_place (guest_place c.guest) t z (sym ms ∙ f))

      assigned_is : (s : State) (c : Caller) → v ≡ view_of s (asks_by c.guest (Remove t)) → b ≡ assigned s.entries c.guest (guest_at s.guests c.guest).list t
      unfolding assigned
      assigned_is s c e = bs ∙ ap₂ (λ (y : Entry) (g : Guest). assigned_to y g.list t) (entry_is s c e) (seen_guest s c.guest (Remove t) v e l)

      pub remove_unassigned : not b ≡ true → Decided v (Remove t) (edited (Err AlenTranslation))
      unfolding remove
      remove_unassigned q =
          decided_refused v (Remove t) _
          (λ s c ok e. judged_remove s c e ∙ check_yes _ _ formed_token ∙ check_no _ _ (test_no b _ (assigned_is s c e) q))

      pub remove_done : (y : Entry) (k : ℕ) (x : Granted) → not b ≡ false → y ≡ released v.entry → k ≡ v.place
          → x ≡ record { value = 0; edit = EntryEdit (k * 30 + (t % 65536 - 2)) y } → Decided v (Remove t) (edited (Ok x))
      unfolding remove change_of Fits
      remove_done y k x q w at p =
          let i = (formed t z (sym ms ∙ f)).entry in
          decided_done v (Remove t) x _ p (omega (arith, at))
          (λ s c ok e. rw (judged_remove s c e ∙ check_yes _ _ formed_token ∙ check_yes _ _ (test_yes b _ (assigned_is s c e) q))
          (record {
            answer = refl;
            change = ap₂ (λ k (n : Entry). SetEntry (k * 30 + (t % 65536 - 2)) n) (at ∙ place_own s c.guest (Remove t) v e l) (w ∙ ap released (entry_is s c e));
          }))

-- the places of an entry fit a byte
pub number_fits : (t : ℕ) (b : Bool) → (t ≡ 0 → ⊥) → b ≡ malformed t → b ≡ false → t % 65536 < 256
number_fits t b z e n = let f = (formed t z (sym e ∙ n)).entry in omega arith

pub number_low : (t : ℕ) (b : Bool) → (t ≡ 0 → ⊥) → b ≡ malformed t → b ≡ false → 2 ≤ t % 65536
number_low t b z e n = (formed t z (sym e ∙ n)).entry.low

pub entry_byte : (at k t : ℕ) (b : Bool) → k ≡ at → at < 8 → (t ≡ 0 → ⊥) → b ≡ malformed t → b ≡ false → k * 30 + (t % 65536 - 2) < 256
entry_byte at k t b is l z e n = let f = (formed t z (sym e ∙ n)).entry in omega arith
