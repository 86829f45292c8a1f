-- PERMIT, ADD and REMOVE keep a sound state sound: the first raises one permit, the others set one entry. Assumes nothing.
use Prim.Native.Nat.{ℕ, ◌+◌, ◌≤◌, ◌<◌}
use mathlib.Core.Bool.{true}
use mathlib.Core.List.{List}
use mathlib.Core.Logic.{◌≢◌, inl, inr, ⊎_elim}
use mathlib.Core.Path.{◌≡◌, refl, sym, ap, ◌∙◌}
use native.Mathlib.Omega.{arith}
use lib.ListN.{length, get_or, set, length-set}
use borrow.Author.Tests.{eqb-true}
use Rattle.lists.proofs.Choice.{true_false, either_to}
use Rattle.lists.proofs.Maps.{at_set}
use Rattle.model.specs.declared.Entry.{Entry}
use Rattle.model.specs.declared.Grant.{Grant}
use Rattle.model.specs.declared.Grant.TheVariants.{Nothing, Reading, Writing}
use Rattle.model.specs.declared.Guest.{Guest}
use Rattle.model.specs.declared.Permit.{Permit}
use Rattle.model.specs.declared.Right.{Right}
use Rattle.model.specs.declared.Right.TheVariants.{Read, Write}
use Rattle.model.specs.declared.Space.{Space}
use Rattle.model.specs.declared.Standing.TheVariants.{Valid}
use Rattle.model.specs.declared.State.{State}
use Rattle.model.specs.Calls.{entitled}
use Rattle.model.specs.Changes.{allows, raised}
use Rattle.model.specs.Decision.{Decision, after}
use Rattle.model.specs.Granted.{Permitted, Added, Removed, added_entry}
use Rattle.model.specs.Searches.{enrolled, slot_of}
use Rattle.model.specs.Sound.{IsGuest, IsEntry, PermitGround, PermitsOk, EntryGround, EntriesOk, Sound}
use Rattle.model.specs.Tables.{no_permit, unused_entry, guest_at, permit_place, grant_at, entry_place, entry_at, with_entries}
use Rattle.model.specs.Tokens.{entry_number}
use Rattle.model.proofs.Entries.{same_permit, same_entry, released_unused, released_small}
use Rattle.model.proofs.Searches.{enrolled_guest, slot_found}
use Rattle.model.proofs.Tokens.{formed, assigned_listed, added_entry_lem}

-- raising a permit lowers no right
pub raised_allows : (p : Grant) (r x : Right) → allows p x ≡ true → allows (raised p r) x ≡ true
unfolding allows raised
raised_allows Nothing r x e = true_false refl (sym e)
raised_allows Reading Read x e = e
raised_allows Reading Write x e = refl
raised_allows Writing r x e = refl

-- one permit set, where there is ground for it
module _ (gs : List Guest) (ss : List Space) (ps : List Permit) (u h : ℕ) (p : Permit) where
  pub set_permit : PermitsOk gs ss ps → u < 32 → IsGuest h → PermitGround gs ss u h → PermitsOk gs ss (set ps (permit_place u h) p)
  set_permit ok b i basis = record {
    len = length-set ps (permit_place u h) p ∙ ok.len;
    basis = λ v k c j. at_set (λ (x : Permit). allows x.grant Read ≡ true → PermitGround gs ss v k) ps (permit_place u h) p (permit_place v k) no_permit (omega (arith, ok.len))
        (λ q _. let e = same_permit u h v k i j q in rw (e.0, e.1) basis)
        (λ _. ok.basis v k c j);
  }

-- entries keep their ground where no right is lowered
pub entries_permitted : (gs : List Guest) (ss : List Space) (ps qs : List Permit) (es : List Entry)
    → ((u g : ℕ) (r : Right) → u < 32 → IsGuest g → allows (grant_at ps u g) r ≡ true → allows (grant_at qs u g) r ≡ true)
    → EntriesOk gs ss ps es → EntriesOk gs ss qs es
entries_permitted gs ss ps qs es keeps ok = record {
  len = ok.len;
  sequence = ok.sequence;
  basis = λ g n u r i j e.
      let old = ok.basis g n u r i j e in
      record { slot = old.slot; live = old.live; right = ⊎_elim (λ o. inl o) (λ a. inr (keeps u g r old.slot i a)) old.right };
  above = ok.above;
}

-- one entry set, of the guest's L, where there is ground for it if it is valid
module _ (gs : List Guest) (ss : List Space) (ps : List Permit) (es : List Entry) (g n : ℕ) (x : Entry) where
  pub set_entry : EntriesOk gs ss ps es → IsGuest g → IsEntry n → n ≤ (guest_at gs g).list + 1 → x.sequence < 256
      → ((u : ℕ) (r : Right) → x.standing ≡ Valid u r → EntryGround ss ps g u r)
      → EntriesOk gs ss ps (set es (entry_place g n) x)
  set_entry ok i j listed small basis = record {
    len = length-set es (entry_place g n) x ∙ ok.len;
    sequence = λ h m a b. at_set (λ (y : Entry). y.sequence < 256) es (entry_place g n) x (entry_place h m) unused_entry inside
        (λ _. small)
        (λ _. ok.sequence h m a b);
    basis = λ h m u r a b. at_set (λ (y : Entry). y.standing ≡ Valid u r → EntryGround ss ps h u r) es (entry_place g n) x (entry_place h m) unused_entry inside
        (λ q e. rw (same_entry g n h m i j a b q).0 (basis u r e))
        (λ _. ok.basis h m u r a b);
    above = λ h m a b. at_set (λ (y : Entry). (guest_at gs h).list + 1 < m → y ≡ unused_entry) es (entry_place g n) x (entry_place h m) unused_entry inside
        (λ q l. let e = same_entry g n h m i j a b q in absurd (omega (arith, e.1, ap (λ k. (guest_at gs k).list) e.0)))
        (λ _. ok.above h m a b);
  }
    where
      inside : entry_place g n < length es
      inside = omega (arith, ok.len)

-- so the state is sound: no other clause reads entries
pub sound_entry : (s : State) (g n : ℕ) (x : Entry) → Sound s → IsGuest g → IsEntry n → n ≤ (guest_at s.guests g).list + 1 → x.sequence < 256
    → ((u : ℕ) (r : Right) → x.standing ≡ Valid u r → EntryGround s.spaces s.permits g u r)
    → Sound (with_entries s (set s.entries (entry_place g n) x))
sound_entry s g n x ok i j listed small basis = record {
  head = ok.head;
  spaces = ok.spaces;
  guests = ok.guests;
  permits = ok.permits;
  cells = ok.cells;
  entries = set_entry s.guests s.spaces s.permits s.entries g n x ok.entries i j listed small basis;
}

-- PERMIT
-- the permit of guest h for slot u raised: whoever was allowed a right still is
pub raise_keeps : (ps : List Permit) (u h : ℕ) (r : Right) → length ps ≡ 256 → u < 32 → IsGuest h → (v k : ℕ) (x : Right)
    → allows (grant_at ps v k) x ≡ true → allows (grant_at (set ps (permit_place u h) (record { grant = raised (grant_at ps u h) r })) v k) x ≡ true
raise_keeps ps u h r len b i v k x e =
    at_set (λ (y : Permit). allows y.grant x ≡ true) ps (permit_place u h) (record { grant = raised (grant_at ps u h) r }) (permit_place v k) no_permit (omega arith)
    (λ q. raised_allows (grant_at ps u h) r x (ap (λ n. allows (get_or ps n no_permit).grant x) (sym q) ∙ e))
    (λ _. e)

pub sound_permit : (s : State) (g i h : ℕ) (r : Right) (d : Decision) → Sound s → enrolled s.guests h ≡ true → h ≢ g → Permitted s g i h r d → Sound (after s d)
sound_permit s g i h r d ok on other done =
    let u = slot_of s.spaces i in
    let b = done.owning.slot in
    let guest = enrolled_guest s.guests h on in
    rw done.is (record {
      head = ok.head;
      spaces = ok.spaces;
      guests = ok.guests;
      permits = set_permit s.guests s.spaces s.permits u h _ ok.permits b guest (record {
        live = (slot_found s.spaces i b).0;
        sharing = ap (λ k. (guest_at s.guests k).share) done.owning.owner ∙ done.sharing;
        guest = on;
        other = λ e. other (e ∙ done.owning.owner);
      });
      cells = ok.cells;
      entries = entries_permitted s.guests s.spaces s.permits _ s.entries (λ v k x _ _. raise_keeps s.permits u h r ok.permits.len b guest v k x) ok.entries;
    })

-- ADD
-- what check 12 passed is ground for the new entry
entitled_ground : (s : State) (g i : ℕ) (r : Right) → slot_of s.spaces i < 32 → entitled s g (slot_of s.spaces i) r ≡ true → EntryGround s.spaces s.permits g (slot_of s.spaces i) r
unfolding entitled
entitled_ground s g i r b e = record {
  slot = b;
  live = (slot_found s.spaces i b).0;
  right = ⊎_elim (λ o. inl (eqb-true _ g o)) (λ a. inr a) (either_to _ _ e);
}

pub sound_add : (s : State) (g i : ℕ) (r : Right) (d : Decision) → Sound s → enrolled s.guests g ≡ true → Added s g i r d → Sound (after s d)
sound_add s g i r d ok on done =
    let guest = enrolled_guest s.guests g on in
    let entry = added_entry_lem s g i r d ok on done in
    rw done.is
    (sound_entry s g (added_entry s g) _ ok guest entry (omega (arith, done.room)) (ok.entries.sequence g (added_entry s g) guest entry)
    (λ u x e.
    let a : slot_of s.spaces i ≡ u = cc in
    let b : r ≡ x = cc in
    rw (← a, ← b) (entitled_ground s g i r done.slot done.right)))

-- REMOVE
pub sound_remove : (s : State) (g t : ℕ) (d : Decision) → Sound s → IsGuest g → Removed s g t d → Sound (after s d)
sound_remove s g t d ok guest done =
    let entry = (formed t done.not_zero done.formed).entry in
    let x = entry_at s.entries g (entry_number t) in
    rw done.is
    (sound_entry s g (entry_number t) _ ok guest entry
    (assigned_listed s.entries g (guest_at s.guests g).list t done.assigned)
    (released_small x (ok.entries.sequence g (entry_number t) guest entry))
    (λ u r e. let z : ◌≡◌ {A = ℕ} 0 1 = cc (released_unused x) in absurd (omega arith)))
