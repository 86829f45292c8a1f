-- LOAD, MODE, KEY, PERMIT, ADD, REMOVE and BLOCK: one CPU block, one permit, one entry or one cell is set, and the memory follows
-- it. Assumes nothing.
use Prim.Native.Nat.{ℕ, ◌-◌, ◌≤◌, ◌<◌}
use mathlib.Core.Bool.{Bool, true, false}
use mathlib.Core.Logic.{◌≢◌}
use mathlib.Core.Path.{◌≡◌, refl, sym, ap, ap₂, ◌∙◌}
use native.Mathlib.Decide.{ℕ_discrete}
use native.Mathlib.Omega.{arith}
use lib.Dec.{eqb}
use lib.ListN.{length, get_or, set}
use borrow.Author.Tests.{eq-eqb, ne_eqb}
use Rattle.lists.specs.Choice.{choose, both}
use Rattle.lists.proofs.Choice.{yes!, no! }
use Rattle.lists.proofs.Maps.{at_set}
use Rattle.model.specs.declared.Caller.{Caller}
use Rattle.model.specs.declared.Cpu.{Cpu}
use Rattle.model.specs.declared.Entry.{Entry}
use Rattle.model.specs.declared.Grant.{Grant}
use Rattle.model.specs.declared.Permit.{Permit}
use Rattle.model.specs.declared.Right.{Right}
use Rattle.model.specs.declared.Standing.TheVariants.{Valid}
use Rattle.model.specs.declared.State.{State}
use Rattle.model.specs.Answers.{value}
use Rattle.model.specs.Changes.{raised, released}
use Rattle.model.specs.Decision.{Decision, after}
use Rattle.model.specs.Granted.{Permitted, Added, Removed, Loaded, ModeSet, KeySet, Blocked, added_entry}
use Rattle.model.specs.Searches.{enrolled, slot_of}
use Rattle.model.specs.Sound.{Live, IsGuest, IsEntry, Sound}
use Rattle.model.specs.Tables.{no_cpu, no_permit, unused_entry, space_at, guest_at, cpu_at, cpu_place, permit_place, grant_at, entry_place, entry_at, with_cpus, with_entries}
use Rattle.model.specs.Tokens.{token, malformed, entry_number, upper_half}
use Rattle.model.proofs.Entries.{same_guest, same_permit, same_entry, released_unused}
use Rattle.model.proofs.Runs.{lowest_entry}
use Rattle.model.proofs.Searches.{enrolled_guest, slot_found}
use Rattle.model.proofs.Tokens.{formed, token_number, token_sequence, assigned_sequence, added_entry_lem}
use Rattle.isolation.specs.History.{nothing, loaded, switched, permitted, added, removed}
use Rattle.isolation.specs.Recall.{Given, space, unassigned, same_caller, owner_by, home_by, grant_by, token_by, mode_by, load_by}
use Rattle.isolation.proofs.Record.{Memory, told, standing_gives, entry_gives, Remembers, gives_unused, gives_other, gives_standing, same_pair, other_pair, id_slot}

module _ (s : State) (m : Memory) (ok : Sound s) (rem : Remembers s m) where
  -- One CPU block is set, caller c's. Another caller is another guest.
  cpu_told : (c : Caller) (x : Cpu) (mode : Caller → Bool) (load : Caller → ℕ → ℕ) → IsGuest c.guest
      → mode c ≡ x.mode → ((b : Caller) → b.guest ≢ c.guest → mode b ≡ m.mode b)
      → ((r : ℕ) → r < 16 → load c r ≡ get_or x.registers r 0) → ((b : Caller) (r : ℕ) → b.guest ≢ c.guest → load b r ≡ m.load b r)
      → Remembers (with_cpus s (set s.cpus (cpu_place c) x)) (record { owner = m.owner; home = m.home; grant = m.grant; token = m.token; mode = mode; load = load })
  cpu_told c x mode load i own-mode other-mode own-load other-load = record {
    owners = rem.owners;
    homes = rem.homes;
    grants = rem.grants;
    unowned = rem.unowned;
    unpermitted = rem.unpermitted;
    tokens = rem.tokens;
    modes = λ b j. at_set (λ (y : Cpu). mode b ≡ y.mode) s.cpus (cpu_place c) x (cpu_place b) no_cpu inside
        (λ q. rw (one b j q) own-mode)
        (λ n. other-mode b (λ e. n (ap (λ g. g - 1) e)) ∙ rem.modes b j);
    loads = λ b r j l. at_set (λ (y : Cpu). load b r ≡ get_or y.registers r 0) s.cpus (cpu_place c) x (cpu_place b) no_cpu inside
        (λ q. rw (one b j q) (own-load r l))
        (λ n. other-load b r (λ e. n (ap (λ g. g - 1) e)) ∙ rem.loads b r j l);
  }
    where
      inside : cpu_place c < length s.cpus
      inside = omega (arith, ok.guests.cpus)

      one : (b : Caller) → IsGuest b.guest → cpu_place b ≡ cpu_place c → b ≡ c
      one b j q = ap (λ g. record { guest = g }) (same_guest c.guest b.guest i j q)

  pub load_told : (c : Caller) (r v : ℕ) (d : Decision) → IsGuest c.guest → r ≤ 15 → Loaded c r v d → Remembers (after s d) (told (loaded c r v) m)
  unfolding owner_by home_by grant_by token_by mode_by load_by
  load_told c r v d i b done =
      let old = (cpu_at s.cpus (cpu_place c)).registers in
      rw done.is
      (cpu_told c _ m.mode (λ a q. choose (both (same_caller c a) (eqb r q)) v (m.load a q)) i (rem.modes c i) (λ _ _. refl)
      (λ q l. at_set (λ y. choose (both (same_caller c c) (eqb r q)) v (m.load c q) ≡ y) old r v q 0 (omega (arith, ok.guests.registers (cpu_place c) (omega arith)))
      (λ e. yes! _ _ (same_pair c.guest c.guest r q refl (sym e)))
      (λ n. no! _ _ (other_pair c.guest c.guest r q (λ _ e. n (sym e))) ∙ rem.loads c q i l))
      (λ a q n. no! _ _ (other_pair c.guest a.guest r q (λ e _. n (sym e)))))

  pub mode_told : (c : Caller) (k : ℕ) (d : Decision) → IsGuest c.guest → ModeSet s c k d → Remembers (after s d) (told (switched c k) m)
  unfolding owner_by home_by grant_by token_by mode_by load_by
  mode_told c k d i done =
      rw done.is
      (cpu_told c _ (λ a. choose (same_caller c a) (eqb k 1) (m.mode a)) m.load i (yes! _ _ (eq-eqb c.guest _ refl))
      (λ a n. no! _ _ (ne_eqb c.guest a.guest (λ e. n (sym e)))) (λ q l. rem.loads c q i l) (λ _ _ _. refl))

  -- KEY keeps registers and mode, and the memory has no keys
  pub key_told : (c : Caller) (k : ℕ) (d : Decision) → IsGuest c.guest → KeySet c k d → Remembers (after s d) (told nothing m)
  unfolding owner_by home_by grant_by token_by mode_by load_by
  key_told c k d i done =
      rw done.is
      (cpu_told c _ m.mode m.load i (rem.modes c i) (λ _ _. refl) (λ q l. rem.loads c q i l) (λ _ _ _. refl))

  -- BLOCK sets one cell, and the memory has no cells
  pub block_told : (g i a k x : ℕ) (d : Decision) → Blocked s g i a k x d → Remembers (after s d) (told nothing m)
  unfolding owner_by home_by grant_by token_by mode_by load_by
  block_told g i a k x d done = rw done.is (record {
    owners = rem.owners;
    homes = rem.homes;
    grants = rem.grants;
    unowned = rem.unowned;
    unpermitted = rem.unpermitted;
    tokens = rem.tokens;
    modes = rem.modes;
    loads = rem.loads;
  })

  -- PERMIT raises one permit, that of guest h for the slot of the space i. No other slot has that identification.
  pub permit_told : (g i h : ℕ) (r : Right) (d : Decision) → IsGuest h → Permitted s g i h r d → Remembers (after s d) (told (permitted g i h r) m)
  unfolding owner_by home_by grant_by token_by mode_by load_by
  permit_told g i h r d j done = rw done.is (record {
    owners = rem.owners;
    homes = rem.homes;
    grants = grants;
    unowned = rem.unowned;
    unpermitted = λ x k b. no! _ _ (other_pair i x h k (λ e _. omega (arith, found.1, ok.spaces.id_below u found.0))) ∙ rem.unpermitted x k b;
    tokens = rem.tokens;
    modes = rem.modes;
    loads = rem.loads;
  })
    where
      u : ℕ
      u = slot_of s.spaces i

      found : Live s.spaces u × ((space_at s.spaces u).id ≡ i)
      found = slot_found s.spaces i done.owning.slot

      raised_to : (slot id guest : ℕ) → Grant
      raised_to v x k = choose (both (eqb u v) (eqb h k)) (raised (m.grant x k) r) (m.grant x k)

      grants : (v k : ℕ) → Live s.spaces v → IsGuest k
          → choose (both (eqb i (space_at s.spaces v).id) (eqb h k)) (raised (m.grant (space_at s.spaces v).id k) r) (m.grant (space_at s.spaces v).id k)
          ≡ grant_at (set s.permits (permit_place u h) (record { grant = raised (grant_at s.permits u h) r })) v k
      grants v k l a =
          rw (id_slot s ok i v done.owning.slot l)
          (at_set (λ (y : Permit). raised_to v (space_at s.spaces v).id k ≡ y.grant) s.permits (permit_place u h) _ (permit_place v k) no_permit (omega (arith, ok.permits.len, done.owning.slot))
          (λ q.
          let e = same_permit u h v k j a q in
          yes! _ _ (same_pair u v h k (sym e.0) (sym e.1))
          ∙ ap (λ y. raised y r) (rem.grants v k l a ∙ ap (λ n. (get_or s.permits n no_permit).grant) q))
          (λ n. no! _ _ (other_pair u v h k (λ e f. n (ap₂ (λ w y. permit_place w y) (sym e) (sym f)))) ∙ rem.grants v k l a))

  -- One entry is set, that of guest g's token k, and k gives v from then on. To any other token of that entry both the old
  -- and the new one give the same.
  entry_told : (g k : ℕ) (x : Entry) (v : Given) → IsGuest g → IsEntry (entry_number k) → entry_gives s.spaces x (upper_half k) ≡ v
      → ((q : ℕ) → q ≢ upper_half k → entry_gives s.spaces (entry_at s.entries g (entry_number k)) q ≡ entry_gives s.spaces x q)
      → Remembers (with_entries s (set s.entries (entry_place g (entry_number k)) x))
      (record { owner = m.owner; home = m.home; grant = m.grant; token = λ h t. choose (both (eqb g h) (eqb k t)) v (m.token h t); mode = m.mode; load = m.load })
  entry_told g k x v i e now others = record {
    owners = rem.owners;
    homes = rem.homes;
    grants = rem.grants;
    unowned = rem.unowned;
    unpermitted = rem.unpermitted;
    tokens = tokens;
    modes = rem.modes;
    loads = rem.loads;
  }
    where
      n : ℕ
      n = entry_number k

      tokens : (h t : ℕ) → IsGuest h → t ≢ 0 → malformed t ≡ false
          → choose (both (eqb g h) (eqb k t)) v (m.token h t) ≡ entry_gives s.spaces (entry_at (set s.entries (entry_place g n) x) h (entry_number t)) (upper_half t)
      tokens h t j z f =
          at_set (λ (y : Entry). choose (both (eqb g h) (eqb k t)) v (m.token h t) ≡ entry_gives s.spaces y (upper_half t)) s.entries (entry_place g n) x (entry_place h (entry_number t)) unused_entry (omega (arith, ok.entries.len))
          (λ q. here (same_entry g n h (entry_number t) i e j (formed t z f).entry q) (ℕ_discrete k t))
          (λ ne. no! _ _ (other_pair g h k t (λ a b. ne (ap₂ (λ w y. entry_place w (entry_number y)) (sym a) (sym b)))) ∙ rem.tokens h t j z f)
        where
          here : (h ≡ g) × (entry_number t ≡ n) → Dec (k ≡ t) → choose (both (eqb g h) (eqb k t)) v (m.token h t) ≡ entry_gives s.spaces x (upper_half t)
          here p (yes q) = yes! _ _ (same_pair g h k t (sym p.0) q) ∙ sym now ∙ ap (λ y. entry_gives s.spaces x (upper_half y)) q
          here p (no ne) =
              no! _ _ (other_pair g h k t (λ _. ne))
              ∙ rem.tokens h t j z f
              ∙ ap₂ (λ a y. entry_gives s.spaces (entry_at s.entries a y) (upper_half t)) p.0 p.1
              ∙ others (upper_half t) (λ q. ne (omega (arith, p.1)))

  -- ADD takes an unused entry and leaves its sequence
  pub add_told : (g i : ℕ) (r : Right) (d : Decision) → enrolled s.guests g ≡ true → Added s g i r d → Remembers (after s d) (told (added g i r (value d.answer)) m)
  unfolding value owner_by home_by grant_by token_by mode_by load_by standing_gives
  add_told g i r d on done =
      let n = added_entry s g in
      let old = entry_at s.entries g n in
      let new : Entry = record { standing = Valid (slot_of s.spaces i) r; sequence = old.sequence } in
      let guest = enrolled_guest s.guests g on in
      let entry = added_entry_lem s g i r d ok on done in
      let small = ok.entries.sequence g n guest entry in
      let number = token_number old.sequence n small entry in
      let upper = token_sequence old.sequence n small entry in
      let unused = (lowest_entry s.entries g (guest_at s.guests g).list).found done.room in
      let id = (slot_found s.spaces i done.slot).1 in
      rw done.is
      (rw number at (entry_told g (token old.sequence n) new (space i r) guest (rw number entry)
      (gives_standing s.spaces new _ (sym upper) ∙ ap (λ x. space x r) id)
      (λ q ne. rw number (gives_unused s.spaces old q unused ∙ sym (gives_other s.spaces new q (λ e. ne (sym e ∙ sym upper)))))))

  -- REMOVE leaves an entry unused, and the token removed had its sequence
  pub remove_told : (g t : ℕ) (d : Decision) → IsGuest g → Removed s g t d → Remembers (after s d) (told (removed g t) m)
  unfolding owner_by home_by grant_by token_by mode_by load_by
  remove_told g t d guest done =
      let old = entry_at s.entries g (entry_number t) in
      let unused = released_unused old in
      rw done.is
      (entry_told g t (released old) unassigned guest (formed t done.not_zero done.formed).entry (gives_unused s.spaces (released old) _ unused)
      (λ q ne.
      gives_other s.spaces old q (λ e. ne (sym e ∙ assigned_sequence s.entries g (guest_at s.guests g).list t done.assigned))
      ∙ sym (gives_unused s.spaces (released old) q unused)))
