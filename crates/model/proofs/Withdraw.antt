-- Withdrawing spaces, the one change of DESTROY, ISOLATE and RESET: what stands where after it, and that it keeps a sound
-- state sound. Assumes nothing.
use Prim.Native.Nat.{ℕ, ◌+◌, ◌≤◌, ◌<◌}
use mathlib.Core.Bool.{Bool, true, false, not}
use mathlib.Core.List.{List}
use mathlib.Core.Logic.{◌≢◌, ◌⊎◌, inl, inr}
use mathlib.Core.Path.{◌≡◌, refl, sym, ap, ◌∙◌}
use native.Mathlib.Omega.{arith}
use lib.Dec.{eqb}
use lib.ListN.{length, get_or}
use borrow.Author.Tests.{eqb-true, not-false}
use Rattle.lists.specs.Choice.{choose}
use Rattle.lists.specs.Decides.{Decides}
use Rattle.lists.proofs.Choice.{true_false, not_so, true_or_false, yes!, no!, choose_elim, choose_same, both_left, both_right, both_yes, both_no, either_not_left, either_not_right}
use Rattle.lists.proofs.Counts.{count_same, count_le}
use Rattle.lists.proofs.Decides.{d_is, d_both, d_some}
use Rattle.lists.proofs.Maps.{length-map_places, map_at, map_same}
use Rattle.model.specs.declared.Cell.{Cell}
use Rattle.model.specs.declared.Entry.{Entry}
use Rattle.model.specs.declared.Grant.TheVariants.{Nothing}
use Rattle.model.specs.declared.Permit.{Permit}
use Rattle.model.specs.declared.Right.{Right}
use Rattle.model.specs.declared.Right.TheVariants.{Read}
use Rattle.model.specs.declared.Space.{Space}
use Rattle.model.specs.declared.Standing.{Standing}
use Rattle.model.specs.declared.Standing.TheVariants.{Unused, Valid, Revoked}
use Rattle.model.specs.declared.State.{State}
use Rattle.model.specs.Changes.{allows, revoked_from, revoked, permit_slot, vacated, unpermitted, freed, blanked, loses, revoked_all, withdrawn}
use Rattle.model.specs.Frames.{Layout, layout, frame_of}
use Rattle.model.specs.Names.{base_name}
use Rattle.model.specs.Searches.{is_owned, is_primary, is_data, primaries, data_spaces}
use Rattle.model.specs.Sizes.{slot_count, max_key}
use Rattle.model.specs.Sound.{Live, IsGuest, IsEntry, SpacesOk, GuestsOk, PermitsOk, EntriesOk, HasFrame, Free, CellsOk, Sound}
use Rattle.model.specs.Tables.{no_space, no_permit, unused_entry, no_cell, cell_at, space_at, permit_place, grant_at, entry_place, entry_at}
use Rattle.model.proofs.Entries.{list_owner_lem, permit_slot_lem}
use Rattle.model.proofs.Runs.{d_has}
use Rattle.model.proofs.Searches.{live_to}

-- a standing that is still valid was the same, and the test spares its slot
revoked_valid : (t : ℕ → Bool) (x : Standing) (u : ℕ) (r : Right) → revoked_from t x ≡ Valid u r → (x ≡ Valid u r) × (t u ≡ false)
unfolding revoked_from
revoked_valid t Unused u r e = let z : ◌≡◌ {A = ℕ} 0 1 = cc in absurd (omega arith)
revoked_valid t (Valid v q) u r e =
    choose_elim (λ y. y ≡ Valid u r → (Valid v q ≡ Valid u r) × (t u ≡ false)) (t v) Revoked (Valid v q)
    (λ _ f. let z : ◌≡◌ {A = ℕ} 0 1 = cc in absurd (omega arith))
    (λ n f. let w : u ≡ v = cc in (f, rw w n)) e
revoked_valid t Revoked u r e = let z : ◌≡◌ {A = ℕ} 0 1 = cc in absurd (omega arith)

-- an entry that is not lost: its space stays, and where permits go the guest owns it
module _ (ss : List Space) (gone closed : ℕ → Bool) (h u : ℕ) (e : loses ss gone closed h u ≡ false) where
  pub kept_space : gone u ≡ false
  unfolding loses
  kept_space = either_not_left _ _ e

  pub kept_owner : closed u ≡ true → (space_at ss u).owner ≡ h
  unfolding loses
  kept_owner c =
      eqb-true _ h (not-false _ (sym (both_yes (not (eqb (space_at ss u).owner h)) c) ∙ either_not_right (gone u) _ e))

-- a frame is freed where it is one of a space that goes
pub d_freed : (l : Layout) (ss : List Space) (gone : ℕ → Bool) (f : ℕ) → Decides (freed l ss gone f) ((u : ℕ) × (u < slot_count) × ((gone u ≡ true) × HasFrame l ss u f))
unfolding freed
d_freed l ss gone f = d_some slot_count (λ u. d_both (d_is (gone u)) (d_has l ss u f))

-- where no space goes all cells stand
pub none_freed : (l : Layout) (ss : List Space) (cs : List Cell) → blanked (freed l ss (λ u. false)) cs ≡ cs
unfolding blanked
none_freed l ss cs =
    map_same _ cs no_cell (λ f _. no! no_cell _ (not_so _ (λ e. let (u, b, (gone, has)) = (d_freed l ss (λ v. false) f).to e in true_false gone refl)))

-- and all spaces
pub none_vacated : (ss : List Space) → vacated (λ u. false) ss ≡ ss
unfolding vacated
none_vacated ss = map_same _ ss no_space (λ u _. no! no_space _ refl)

-- What stands where after a withdrawal.
module _ (s : State) (gone closed : ℕ → Bool) where
  pub withdrawn_lengths : (length (withdrawn gone closed s).spaces ≡ length s.spaces) × (length (withdrawn gone closed s).permits ≡ length s.permits) × (length (withdrawn gone closed s).entries ≡ length s.entries) × (length (withdrawn gone closed s).cells ≡ length s.cells)
  unfolding withdrawn vacated unpermitted revoked_all blanked
  withdrawn_lengths = (length-map_places _ s.spaces, length-map_places _ s.permits, length-map_places _ s.entries, length-map_places _ s.cells)

  -- Spaces.
  pub withdrawn_space : (u : ℕ) → space_at (withdrawn gone closed s).spaces u ≡ choose (gone u) no_space (space_at s.spaces u)
  unfolding withdrawn vacated
  withdrawn_space u = map_at _ s.spaces no_space (λ v. choose_same (gone v) no_space) u

  pub withdrawn_gone : (u : ℕ) → gone u ≡ true → space_at (withdrawn gone closed s).spaces u ≡ no_space
  withdrawn_gone u e = withdrawn_space u ∙ yes! _ _ e

  pub withdrawn_kept : (u : ℕ) → gone u ≡ false → space_at (withdrawn gone closed s).spaces u ≡ space_at s.spaces u
  withdrawn_kept u n = withdrawn_space u ∙ no! _ _ n

  -- a space that is live is not gone, was live, and is as it was
  pub withdrawn_live : (u : ℕ) → Live (withdrawn gone closed s).spaces u → (gone u ≡ false) × Live s.spaces u × (space_at (withdrawn gone closed s).spaces u ≡ space_at s.spaces u)
  withdrawn_live u l =
      let n = not_so (gone u) (λ e. omega (arith, ap (λ (x : Space). x.id) (withdrawn_gone u e))) in
      (n, rw (withdrawn_kept u n) at l, withdrawn_kept u n)

  -- the pages of a space that is not gone lie in the frames in which they lay
  pub withdrawn_frame : (u p : ℕ) → gone u ≡ false → frame_of (layout (withdrawn gone closed s)) u p ≡ frame_of (layout s) u p
  unfolding frame_of
  withdrawn_frame u p n = ap (λ (x : Space). x.first + p) (withdrawn_kept u n)

  -- Cells. Those of freed frames have key 0, mark off.
  pub withdrawn_cell : (f : ℕ) → cell_at (withdrawn gone closed s).cells f ≡ choose (freed (layout s) s.spaces gone f) no_cell (cell_at s.cells f)
  unfolding withdrawn blanked
  withdrawn_cell f = map_at _ s.cells no_cell (λ k. choose_same (freed (layout s) s.spaces gone k) no_cell) f

  -- Permits.
  pub withdrawn_grant : (u h : ℕ) → IsGuest h → grant_at (withdrawn gone closed s).permits u h ≡ choose (closed u) Nothing (grant_at s.permits u h)
  unfolding withdrawn unpermitted choose
  withdrawn_grant u h i =
      ap (λ (p : Permit). p.grant) (map_at _ s.permits no_permit (λ k. choose_same (closed (permit_slot k)) no_permit) (permit_place u h))
      ∙ rw (permit_slot_lem u h i) (go (closed u) (get_or s.permits (permit_place u h) no_permit))
    where
      go : (t : Bool) (p : Permit) → (choose t no_permit p).grant ≡ choose t Nothing p.grant
      go true p = refl
      go false p = refl

  -- a permit that stands stood, and its slot is not closed
  pub withdrawn_permit : (u h : ℕ) (r : Right) → IsGuest h → allows (grant_at (withdrawn gone closed s).permits u h) r ≡ true → (closed u ≡ false) × (allows (grant_at s.permits u h) r ≡ true)
  unfolding allows
  withdrawn_permit u h r i e =
      choose_elim (λ x. allows x r ≡ true → (closed u ≡ false) × (allows (grant_at s.permits u h) r ≡ true)) (closed u) Nothing (grant_at s.permits u h)
      (λ _ z. true_false z refl) (λ n a. (n, a)) (rw (withdrawn_grant u h i) at e)

  -- Entries. One that is lost becomes revoked, and each keeps its sequence.
  pub withdrawn_revoked : (g n : ℕ) → IsGuest g → IsEntry n → entry_at (withdrawn gone closed s).entries g n ≡ revoked (loses s.spaces gone closed g) (entry_at s.entries g n)
  unfolding withdrawn revoked_all revoked revoked_from
  withdrawn_revoked g n i e =
      map_at _ s.entries unused_entry (λ k. refl) (entry_place g n)
      ∙ ap (λ h. revoked (loses s.spaces gone closed h) (entry_at s.entries g n)) (list_owner_lem g n i e)

  pub withdrawn_sequence : (g n : ℕ) → IsGuest g → IsEntry n → (entry_at (withdrawn gone closed s).entries g n).sequence ≡ (entry_at s.entries g n).sequence
  unfolding revoked
  withdrawn_sequence g n i e = ap (λ (x : Entry). x.sequence) (withdrawn_revoked g n i e)

  -- one that is valid was the same and is not lost
  pub withdrawn_entry : (g n u : ℕ) (r : Right) → IsGuest g → IsEntry n → (entry_at (withdrawn gone closed s).entries g n).standing ≡ Valid u r → ((entry_at s.entries g n).standing ≡ Valid u r) × (loses s.spaces gone closed g u ≡ false)
  unfolding revoked
  withdrawn_entry g n u r i e v = revoked_valid _ (entry_at s.entries g n).standing u r (rw (withdrawn_revoked g n i e) at v)

-- A sound state stays sound. What is gone is closed too, and no primary is gone.
module _ (s : State) (gone closed : ℕ → Bool) (ok : Sound s)
    (within : (u : ℕ) → gone u ≡ true → closed u ≡ true)
    (no-base : (u : ℕ) → gone u ≡ true → Live s.spaces u → (space_at s.spaces u).name ≢ base_name) where
  sound_spaces : SpacesOk s.frames s.next s.guests (withdrawn gone closed s).spaces (layout (withdrawn gone closed s))
  sound_spaces = record {
    len = (withdrawn_lengths s gone closed).0 ∙ ok.spaces.len;
    owner = λ u l. rw (same u l) (ok.spaces.owner u (was u l));
    pages = λ u l. rw (same u l) (ok.spaces.pages u (was u l));
    inside = λ u p l b. rw (frame u p l) (ok.spaces.inside u p (was u l) (rw (same u l) at b));
    apart = λ u v p q l m b c e.
        ok.spaces.apart u v p q (was u l) (was v m) (rw (same u l) at b) (rw (same v m) at c) (sym (frame u p l) ∙ e ∙ frame v q m);
    id_below = λ u l. rw (same u l) (ok.spaces.id_below u (was u l));
    id_own = λ u v l m e. ok.spaces.id_own u v (was u l) (was v m) (rw (same u l, same v m) at e);
    name = λ u l. rw (same u l) (ok.spaces.name u (was u l));
    name_own = λ u v l m o e. ok.spaces.name_own u v (was u l) (was v m) (rw (same u l, same v m) at o) (rw (same u l, same v m) at e);
    dead = λ u. rw (withdrawn_space s gone closed u)
        (choose_elim (λ x. x.id ≡ 0 → x ≡ no_space) (gone u) no_space (space_at s.spaces u) (λ _ _. refl) (λ _. ok.spaces.dead u));
  }
    where
      was : (u : ℕ) → Live (withdrawn gone closed s).spaces u → Live s.spaces u
      was u l = (withdrawn_live s gone closed u l).1

      same : (u : ℕ) → Live (withdrawn gone closed s).spaces u → space_at (withdrawn gone closed s).spaces u ≡ space_at s.spaces u
      same u l = (withdrawn_live s gone closed u l).2

      frame : (u p : ℕ) → Live (withdrawn gone closed s).spaces u → frame_of (layout (withdrawn gone closed s)) u p ≡ frame_of (layout s) u p
      frame u p l = withdrawn_frame s gone closed u p (withdrawn_live s gone closed u l).0

  -- as many primaries, for none is gone, and no more data spaces
  same_primary : (g u : ℕ) → is_primary g (space_at (withdrawn gone closed s).spaces u) ≡ is_primary g (space_at s.spaces u)
  same_primary g u =
      let x = space_at s.spaces u in
      rw (withdrawn_space s gone closed u)
      (choose_elim (λ y. is_primary g y ≡ is_primary g x) (gone u) no_space x
      (λ e. both_no _ (both_no _ refl) ∙ sym (not_so (is_primary g x) (none e))) (λ _. refl))
    where
      none : gone u ≡ true → is_primary g (space_at s.spaces u) ≡ true → ⊥
      none e z =
          let x = space_at s.spaces u in
          let o = both_left (is_owned g x) _ z in
          no-base u e (live_to x (both_left _ _ o)) (eqb-true _ base_name (both_right (is_owned g x) _ z))

  was_data : (g u : ℕ) → is_data g (space_at (withdrawn gone closed s).spaces u) ≡ true → is_data g (space_at s.spaces u) ≡ true
  was_data g u =
      let x = space_at s.spaces u in
      rw (withdrawn_space s gone closed u)
      (choose_elim (λ y. is_data g y ≡ true → is_data g x ≡ true) (gone u) no_space x
      (λ _ z. true_false z (both_no _ (both_no _ refl))) (λ _ z. z))

  sound_guests : GuestsOk (withdrawn gone closed s).spaces s.guests s.cpus
  unfolding primaries data_spaces
  sound_guests = record {
    len = ok.guests.len;
    cpus = ok.guests.cpus;
    registers = ok.guests.registers;
    primary = λ g e. count_same _ _ 32 (λ u _. same_primary g u) ∙ ok.guests.primary g e;
    allowed = λ g e. omega (arith, ok.guests.allowed g e, count_le _ _ 32 (λ u _. was_data g u));
    allowance = ok.guests.allowance;
    list_low = ok.guests.list_low;
    list_high = ok.guests.list_high;
    mode = ok.guests.mode;
    key = ok.guests.key;
    absent = ok.guests.absent;
    idle = ok.guests.idle;
  }

  sound_permits : PermitsOk s.guests (withdrawn gone closed s).spaces (withdrawn gone closed s).permits
  sound_permits = record {
    len = (withdrawn_lengths s gone closed).1 ∙ ok.permits.len;
    basis = λ u h b i a.
        let p = withdrawn_permit s gone closed u h Read i a in
        let n = not_so (gone u) (λ e. true_false (within u e) p.0) in
        let c = ok.permits.basis u h b i p.1 in
        let same = withdrawn_kept s gone closed u n in
        record {
          live = rw same c.live;
          sharing = rw same c.sharing;
          guest = c.guest;
          other = rw same c.other;
        };
  }

  sound_entries : EntriesOk s.guests (withdrawn gone closed s).spaces (withdrawn gone closed s).permits (withdrawn gone closed s).entries
  unfolding revoked revoked_from
  sound_entries = record {
    len = (withdrawn_lengths s gone closed).2 ∙ ok.entries.len;
    sequence = λ g n i e. rw (withdrawn_sequence s gone closed g n i e) (ok.entries.sequence g n i e);
    basis = λ g n u r i e v.
        let w = withdrawn_entry s gone closed g n u r i e v in
        let c = ok.entries.basis g n u r i e w.0 in
        let same = withdrawn_kept s gone closed u (kept_space s.spaces gone closed g u w.1) in
        record {
          slot = c.slot;
          live = rw same c.live;
          right = rw same (still g u r i w.1 c.right (true_or_false (closed u)));
        };
    above = λ g n i e a. withdrawn_revoked s gone closed g n i e ∙ ap (revoked (loses s.spaces gone closed g)) (ok.entries.above g n i e a);
  }
    where
      still : (g u : ℕ) (r : Right) → IsGuest g → loses s.spaces gone closed g u ≡ false
          → ((space_at s.spaces u).owner ≡ g) ⊎ (allows (grant_at s.permits u g) r ≡ true) → (closed u ≡ true) ⊎ (closed u ≡ false)
          → ((space_at s.spaces u).owner ≡ g) ⊎ (allows (grant_at (withdrawn gone closed s).permits u g) r ≡ true)
      still g u r i k (inl o) c = inl o
      still g u r i k (inr a) (inl c) = inl (kept_owner s.spaces gone closed g u k c)
      still g u r i k (inr a) (inr c) = inr (rw (withdrawn_grant s gone closed u g i, no! Nothing (grant_at s.permits u g) c) a)

  -- a frame that is free after it was free before it, or is freed
  sound_cells : CellsOk (withdrawn gone closed s).spaces (layout (withdrawn gone closed s)) (withdrawn gone closed s).cells
  sound_cells = record {
    len = (withdrawn_lengths s gone closed).3 ∙ ok.cells.len;
    key = λ f. rw (withdrawn_cell s gone closed f) (choose_elim (λ (c : Cell). c.key ≤ max_key) (freed (layout s) s.spaces gone f) no_cell (cell_at s.cells f) (λ _. omega arith) (λ _. ok.cells.key f));
    free = λ f out. withdrawn_cell s gone closed f
        ∙ choose_elim (λ (c : Cell). c ≡ no_cell) (freed (layout s) s.spaces gone f) no_cell (cell_at s.cells f) (λ _. refl) (λ n. ok.cells.free f (λ u b l h. stays f out n u b l h (true_or_false (gone u))));
  }
    where
      stays : (f : ℕ) → Free (layout (withdrawn gone closed s)) (withdrawn gone closed s).spaces f → freed (layout s) s.spaces gone f ≡ false
          → (u : ℕ) → u < slot_count → Live s.spaces u → HasFrame (layout s) s.spaces u f → (gone u ≡ true) ⊎ (gone u ≡ false) → ⊥
      stays f out n u b l h (inl e) = true_false ((d_freed (layout s) s.spaces gone f).of (u, b, (e, h))) n
      stays f out n u b l (p, h, e) (inr k) =
          let same = withdrawn_kept s gone closed u k in
          out u b (rw same l) (p, rw same h, withdrawn_frame s gone closed u p k ∙ e)

pub sound_withdrawn : (s : State) (gone closed : ℕ → Bool) → Sound s → ((u : ℕ) → gone u ≡ true → closed u ≡ true)
    → ((u : ℕ) → gone u ≡ true → Live s.spaces u → (space_at s.spaces u).name ≢ base_name) → Sound (withdrawn gone closed s)
unfolding withdrawn
sound_withdrawn s gone closed ok within no-base = record {
  head = ok.head;
  spaces = sound_spaces s gone closed ok within no-base;
  guests = sound_guests s gone closed ok within no-base;
  permits = sound_permits s gone closed ok within no-base;
  entries = sound_entries s gone closed ok within no-base;
  cells = sound_cells s gone closed ok within no-base;
}
