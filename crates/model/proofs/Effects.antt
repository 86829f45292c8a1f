-- What a done PERMIT, QUERY, ADD and REMOVE do, in the words of their rows in paper 01, and that they do nothing else; and
-- what is common to the laws of this kind. Assumes nothing.
use Prim.Native.Nat.{ℕ, ◌+◌, ◌-◌, ◌%◌, ◌≤◌, ◌<◌, max}
use mathlib.Core.Bool.{true, false}
use mathlib.Core.Logic.{◌≢◌, ◌⊎◌, inl, inr, ⊎_elim}
use mathlib.Core.Path.{◌≡◌, refl, sym, ap, ◌∙◌}
use native.Mathlib.Omega.{arith}
use lib.Dec.{leb}
use lib.ListN.{set}
use lib.Seq.{get_or-set_same, get_or-set_other}
use borrow.Author.Tests.{eqb-true}
use Rattle.lists.specs.Choice.{choose}
use Rattle.lists.proofs.Choice.{true_false, no!, both_left, either_to}
use Rattle.model.specs.declared.Caller.{Caller}
use Rattle.model.specs.declared.Entry.{Entry}
use Rattle.model.specs.declared.Grant.{Grant}
use Rattle.model.specs.declared.Grant.TheVariants.{Nothing, Reading, Writing}
use Rattle.model.specs.declared.Operation.{Operation}
use Rattle.model.specs.declared.Operation.TheVariants.{Permit, Query, Add, Remove}
use Rattle.model.specs.declared.Permit.{Permit as Permission}
use Rattle.model.specs.declared.Right.{Right}
use Rattle.model.specs.declared.Right.TheVariants.{Read, Write}
use Rattle.model.specs.declared.Standing.TheVariants.{Unused, Valid}
use Rattle.model.specs.declared.State.{State}
use Rattle.model.specs.Answers.{number, value}
use Rattle.model.specs.Arguments.{arguments}
use Rattle.model.specs.Calls.{entitled, enrols, good_caller, ready, decide}
use Rattle.model.specs.Changes.{allows, raised, released}
use Rattle.model.specs.Decision.{Decision, after}
use Rattle.model.specs.Granted.{Performed, AllFit, Granted, added_entry}
use Rattle.model.specs.Searches.{is_unused, slot_of, slot_named}
use Rattle.model.specs.Sound.{Live, IsGuest, IsEntry, Sound}
use Rattle.model.specs.Tables.{no_permit, unused_entry, space_at, guest_at, grant_at, permit_place, entry_at, entry_place, with_permits, with_entries}
use Rattle.model.specs.Tokens.{token, entry_number, upper_half}
use Rattle.model.proofs.Entries.{same_permit, same_entry, entry_set, released_unused, released_raised}
use Rattle.model.proofs.Refusals.{done_granted}
use Rattle.model.proofs.Runs.{lowest_entry}
use Rattle.model.proofs.Searches.{enrolled_guest, slot_found, named_found}
use Rattle.model.proofs.SoundTest.{sound_decides}
use Rattle.model.proofs.Tokens.{formed, assigned_used, assigned_sequence, added_entry_lem}

-- One element set: what stands there, that every other stands as it stood, and that no other table changes.
pub record OneEntry (s t : State) (g n : ℕ) (x : Entry) : Type 0 where
  pub entry : entry_at t.entries g n ≡ x
  pub others : (h k : ℕ) → IsGuest h → IsEntry k → (h ≡ g → k ≢ n) → entry_at t.entries h k ≡ entry_at s.entries h k
  pub rest : t ≡ with_entries s t.entries

one_entry : (s : State) (g n : ℕ) (x : Entry) → Sound s → IsGuest g → IsEntry n → OneEntry s (with_entries s (set s.entries (entry_place g n) x)) g n x
one_entry s g n x ok i j = record {
  entry = entry_set s.entries g n x ok.entries.len i j;
  others = λ h k a b ne. get_or-set_other s.entries (entry_place g n) (entry_place h k) x unused_entry (λ e. let q = same_entry g n h k i j a b e in ne q.0 q.1);
  rest = refl;
}

pub record OnePermit (s t : State) (u h : ℕ) (x : Grant) : Type 0 where
  pub grant : grant_at t.permits u h ≡ x
  pub others : (v k : ℕ) → IsGuest k → (v ≡ u → k ≢ h) → grant_at t.permits v k ≡ grant_at s.permits v k
  pub rest : t ≡ with_permits s t.permits

one_permit : (s : State) (u h : ℕ) (x : Grant) → Sound s → u < 32 → IsGuest h → OnePermit s (with_permits s (set s.permits (permit_place u h) (record { grant = x }))) u h x
one_permit s u h x ok b i =
    let p : Permission = record { grant = x } in
    record {
      grant = ap (λ (y : Permission). y.grant) (get_or-set_same s.permits (permit_place u h) p no_permit (omega (arith, ok.permits.len)));
      others = λ v k j ne. ap (λ (y : Permission). y.grant) (get_or-set_other s.permits (permit_place u h) (permit_place v k) p no_permit (λ e. let q = same_permit u h v k i j e in ne q.0 q.1));
      rest = refl;
    }

-- slot u holds the live space of identification i
pub record IsSpace (s : State) (i u : ℕ) : Type 0 where
  pub live : Live s.spaces u
  pub id : (space_at s.spaces u).id ≡ i

pub is_space_lem : (s : State) (i : ℕ) → slot_of s.spaces i < 32 → IsSpace s i (slot_of s.spaces i)
is_space_lem s i b = let f = slot_found s.spaces i b in record { live = f.0; id = f.1 }

-- guest g owns the space in slot u, or is permitted the right r to it
abbrev pub May : State → (guest slot : ℕ) → Right → Type 0
May s g u r = ((space_at s.spaces u).owner ≡ g) ⊎ (allows (grant_at s.permits u g) r ≡ true)

pub may : (s : State) (g u : ℕ) (r : Right) → entitled s g u r ≡ true → May s g u r
unfolding entitled
may s g u r e = ⊎_elim (λ o. inl (eqb-true _ g o)) (λ a. inr a) (either_to _ _ e)

-- "The right becomes the greater of old and new; write includes read": as numbers, what a permit allows and a right asks.
abbrev pub level : Grant → ℕ
level Nothing = 0
level Reading = 1
level Writing = 2

abbrev pub asked : Right → ℕ
asked Read = 1
asked Write = 2

pub allows_level : (x : Grant) (r : Right) → allows x r ≡ leb (asked r) (level x)
unfolding allows
allows_level Nothing Read = refl
allows_level Nothing Write = refl
allows_level Reading Read = refl
allows_level Reading Write = refl
allows_level Writing Read = refl
allows_level Writing Write = refl

pub raised_level : (x : Grant) (r : Right) → level (raised x r) ≡ max (level x) (asked r)
unfolding raised
raised_level Nothing Read = refl
raised_level Nothing Write = refl
raised_level Reading Read = refl
raised_level Reading Write = refl
raised_level Writing Read = refl
raised_level Writing Write = refl

-- PERMIT: "The right becomes the greater of old and new"
pub record PermitEffect (s t : State) (g i h : ℕ) (r : Right) : Type 0 where
  pub slot : ℕ
  pub space : IsSpace s i slot
  pub owner : (space_at s.spaces slot).owner ≡ g
  pub sharing : (guest_at s.guests g).share ≡ true
  pub permit : OnePermit s t slot h (raised (grant_at s.permits slot h) r)

-- QUERY: "Value: the identification if caller owns it or is permitted"
pub record QueryEffect (s : State) (g h k : ℕ) (d : Decision) : Type 0 where
  pub slot : ℕ
  pub space : IsSpace s (value d.answer) slot
  pub owner : (space_at s.spaces slot).owner ≡ h
  pub name : (space_at s.spaces slot).name ≡ k
  pub may : May s g slot Read
  pub tables : after s d ≡ s

-- ADD: the lowest unused entry of the guest's L becomes valid for the space with the right asked. "Value: the token."
pub record AddEffect (s : State) (g i : ℕ) (r : Right) (d : Decision) : Type 0 where
  pub slot : ℕ
  pub space : IsSpace s i slot
  pub may : May s g slot r
  pub number : ℕ
  pub low : 2 ≤ number
  pub high : number ≤ (guest_at s.guests g).list + 1
  pub unused : (entry_at s.entries g number).standing ≡ Unused
  pub lowest : (k : ℕ) → 2 ≤ k → k < number → (entry_at s.entries g k).standing ≢ Unused
  pub token : value d.answer ≡ token (entry_at s.entries g number).sequence number
  pub entry : OneEntry s (after s d) g number (record { standing = Valid slot r; sequence = (entry_at s.entries g number).sequence })

-- REMOVE: "Valid or revoked, the entry becomes unused", and its sequence "goes up by one; it wraps from 255 to 0"
pub record RemoveEffect (s t : State) (g token : ℕ) : Type 0 where
  pub not_zero : token ≢ 0
  pub used : (entry_at s.entries g (entry_number token)).standing ≢ Unused
  pub sequence : (entry_at s.entries g (entry_number token)).sequence ≡ upper_half token
  pub entry : OneEntry s t g (entry_number token) (record { standing = Unused; sequence = (upper_half token + 1) % 256 })

released_is : (e : Entry) → is_unused e.standing ≡ false → released e ≡ record { standing = Unused; sequence = (e.sequence + 1) % 256 }
released_is e used = λ i. record { standing = released_unused e i; sequence = released_raised e used i }

-- A done call of an enrolled guest.
module _ (s : State) (m : ℕ) (c : Caller) (n : ℕ) where
  abbrev pub by : Operation → Decision
  by k = decide s m (record { caller = c; operation = k }) n

  abbrev pub Done : Operation → Type 0
  Done k = number (by k).answer ≡ 0

  pub all : (k : Operation) → Done k → Granted s m (record { caller = c; operation = k }) n (by k)
  all k done = done_granted s m (record { caller = c; operation = k }) n done

  pub ok : (k : Operation) → Done k → Sound s
  unfolding ready
  ok k done = (sound_decides s).to (both_left _ _ (all k done).ready)

  pub guest : (k : Operation) → enrols k ≡ false → Done k → IsGuest c.guest
  unfolding good_caller
  guest k e done = enrolled_guest s.guests c.guest (sym (no! _ _ e) ∙ (all k done).caller)

  pub permit_does : (i h : ℕ) (r : Right) → Done (Permit i h r) → PermitEffect s (after s (by (Permit i h r))) c.guest i h r
  unfolding Performed arguments AllFit
  permit_does i h r done =
      let p = (all (Permit i h r) done).performed in
      let u = slot_of s.spaces i in
      let other = enrolled_guest s.guests h (both_left _ _ (all (Permit i h r) done).arguments.0) in
      rw p.is (record {
        slot = u;
        space = is_space_lem s i p.owning.slot;
        owner = p.owning.owner;
        sharing = p.sharing;
        permit = one_permit s u h _ (ok (Permit i h r) done) p.owning.slot other;
      })

  pub query_does : (owner name : ℕ) → Done (Query owner name) → QueryEffect s c.guest owner name (by (Query owner name))
  unfolding Performed value
  query_does owner name done =
      let p = (all (Query owner name) done).performed in
      let f = named_found s.spaces owner name p.slot in
      rw p.is (record {
        slot = slot_named s.spaces owner name;
        space = record { live = f.0; id = refl };
        owner = f.1;
        name = f.2;
        may = may s c.guest _ Read p.right;
        tables = refl;
      })

  pub add_does : (i : ℕ) (r : Right) → Done (Add i r) → AddEffect s c.guest i r (by (Add i r))
  unfolding Performed value enrols good_caller choose
  add_does i r done =
      let p = (all (Add i r) done).performed in
      let g = c.guest in
      let l = (guest_at s.guests g).list in
      let low = lowest_entry s.entries g l in
      let entry = added_entry_lem s g i r (by (Add i r)) (ok (Add i r) done) (all (Add i r) done).caller p in
      rw p.is (record {
        slot = slot_of s.spaces i;
        space = is_space_lem s i p.slot;
        may = may s g _ r p.right;
        number = added_entry s g;
        low = entry.low;
        high = omega (arith, p.room);
        unused = low.found p.room;
        lowest = λ k a b e.
            let q : k ≡ k - 2 + 2 = omega arith in
            absurd (omega (arith, low.least (k - 2) (omega (arith, p.room)) (rw q at e)));
        token = refl;
        entry = one_entry s g (added_entry s g) _ (ok (Add i r) done) (guest (Add i r) refl done) entry;
      })

  pub remove_does : (t : ℕ) → Done (Remove t) → RemoveEffect s (after s (by (Remove t))) c.guest t
  unfolding Performed enrols is_unused
  remove_does t done =
      let p = (all (Remove t) done).performed in
      let g = c.guest in
      let l = (guest_at s.guests g).list in
      let x = entry_at s.entries g (entry_number t) in
      let used = assigned_used s.entries g l t p.assigned in
      let same = assigned_sequence s.entries g l t p.assigned in
      rw p.is (record {
        not_zero = p.not_zero;
        used = λ e. true_false (ap is_unused e) used;
        sequence = same;
        entry = rw (← same, ← released_is x used) (one_entry s g (entry_number t) (released x) (ok (Remove t) done) (guest (Remove t) refl done) (formed t p.not_zero p.formed).entry);
      })
