-- ENROL and CREATE leave a sound state sound. Both set a new space into a free slot. They differ in what becomes of the
-- caller, so one law, over the guests after the call, serves both. Assumes nothing.
use Prim.Native.Nat.{ℕ, ◌+◌, ◌≤◌, ◌<◌}
use mathlib.Core.Bool.{true, false}
use mathlib.Core.List.{List}
use mathlib.Core.Logic.{◌≢◌}
use mathlib.Core.Path.{◌≡◌, refl, sym, ap, ◌∙◌}
use native.Mathlib.Decide.{ℕ_discrete}
use native.Mathlib.Omega.{arith}
use lib.ListN.{length, set, length-set}
use lib.Seq.{get_or-set_same, get_or-set_other}
use Rattle.lists.specs.Choice.{both, either, choose}
use Rattle.lists.proofs.Choice.{true_false}
use Rattle.model.specs.declared.Change.{Change}
use Rattle.model.specs.declared.Cpu.{Cpu}
use Rattle.model.specs.declared.Guest.{Guest}
use Rattle.model.specs.declared.Settings.{Settings}
use Rattle.model.specs.declared.Space.{Space}
use Rattle.model.specs.declared.State.{State}
use Rattle.model.specs.Calls.{new_space, new_guest, enrolling}
use Rattle.model.specs.Changes.{space_added, applied}
use Rattle.model.specs.Decision.{Decision, after}
use Rattle.model.specs.Frames.{layout, frame_of}
use Rattle.model.specs.Granted.{Made, Created}
use Rattle.model.specs.Names.{blanks, name_rest, name_form, name_bytes, good_name, base_name}
use Rattle.model.specs.Runs.{IsRun}
use Rattle.model.specs.Searches.{enrolled, slot_named, primary_slot, primaries, data_spaces, free_slot, free_run}
use Rattle.model.specs.Sizes.{max_allowance, max_list, max_key}
use Rattle.model.specs.Sound.{CellsOk, Live, IsGuest, GuestsOk, PermitsOk, EntriesOk, Sound}
use Rattle.model.specs.Tables.{no_space, no_guest, space_at, guest_at, guest_place, cpu_at, with_guests}
use Rattle.model.proofs.NewSpace.{Fits, Placed, stands, spaces_made, primary_made, data_made, others_made, no_primaries, no_data_lem}
use Rattle.model.proofs.Runs.{lowest_run, lowest_slot}
use Rattle.model.proofs.Searches.{live_slot, enrolled_guest, enrolled_is, enrolled_of, named_none, primary_lt}

-- The guests before and after: all that were enrolled stay as they were, and so do all but the caller g. Its list does not
-- get shorter.
record Keeps (gs hs : List Guest) (g : ℕ) : Type 0 where
  len : length hs ≡ 8
  caller : enrolled hs g ≡ true
  kept : (h : ℕ) → enrolled gs h ≡ true → guest_at hs h ≡ guest_at gs h
  others : (h : ℕ) → IsGuest h → h ≢ g → guest_at hs h ≡ guest_at gs h
  list : (guest_at gs g).list ≤ (guest_at hs g).list

module _ (gs hs : List Guest) (g : ℕ) (k : Keeps gs hs g) where
  still : (h : ℕ) → enrolled gs h ≡ true → enrolled hs h ≡ true
  still h e = enrolled_of hs h (enrolled_guest gs h e) (rw (k.kept h e) (enrolled_is gs h e))

  no_shorter : (h : ℕ) → IsGuest h → (guest_at gs h).list ≤ (guest_at hs h).list
  no_shorter h i = go (ℕ_discrete h g)
    where
      go : Dec (h ≡ g) → (guest_at gs h).list ≤ (guest_at hs h).list
      go (yes e) = rw e k.list
      go (no n) = rw (k.others h i n) (omega arith)

-- What a sound state says of an enrolled guest g, with settings y and the CPU block c.
record Settled (ss : List Space) (y : Guest) (c : Cpu) (g : ℕ) : Type 0 where
  primary : primaries ss g ≡ 1
  allowed : data_spaces ss g ≤ y.allowance
  allowance : y.allowance ≤ max_allowance
  list_low : 1 ≤ y.list
  list_high : y.list ≤ max_list
  mode : c.mode ≡ true → y.asf ≡ true
  key : c.key ≤ max_key

settled_before : (ss : List Space) (gs : List Guest) (cs : List Cpu) → GuestsOk ss gs cs → (g : ℕ) → enrolled gs g ≡ true → Settled ss (guest_at gs g) (cpu_at cs (guest_place g)) g
settled_before ss gs cs ok g e = record {
  primary = ok.primary g e;
  allowed = ok.allowed g e;
  allowance = ok.allowance g e;
  list_low = ok.list_low g e;
  list_high = ok.list_high g e;
  mode = ok.mode g e;
  key = ok.key g e;
}

-- The tables after: the space x stands in the slot j, which was free, and the guests are hs.
module _ (s : State) (ok : Sound s) (hs : List Guest) (x : Space) (k : Keeps s.guests hs x.owner) (j : ℕ) (j-lt : j < 32) (free : (space_at s.spaces j).id ≡ 0) where
  same_space : (u : ℕ) → Live s.spaces u → space_at (set s.spaces j x) u ≡ space_at s.spaces u
  same_space = stands s.spaces j x ok.spaces.len j-lt free

  guests_made : Settled (set s.spaces j x) (guest_at hs x.owner) (cpu_at s.cpus (guest_place x.owner)) x.owner → GuestsOk (set s.spaces j x) hs s.cpus
  guests_made caller = record {
    len = k.len;
    cpus = ok.guests.cpus;
    registers = ok.guests.registers;
    primary = λ h e. (all h e).primary;
    allowed = λ h e. (all h e).allowed;
    allowance = λ h e. (all h e).allowance;
    list_low = λ h e. (all h e).list_low;
    list_high = λ h e. (all h e).list_high;
    mode = λ h e. (all h e).mode;
    key = λ h e. (all h e).key;
    absent = λ h i a. let same = k.others h i (other h a) in same ∙ ok.guests.absent h i (rw same at a);
    idle = λ h i a. ok.guests.idle h i (rw (k.others h i (other h a)) at a);
  }
    where
      all : (h : ℕ) → enrolled hs h ≡ true → Settled (set s.spaces j x) (guest_at hs h) (cpu_at s.cpus (guest_place h)) h
      all h e = go (ℕ_discrete h x.owner)
        where
          go : Dec (h ≡ x.owner) → Settled (set s.spaces j x) (guest_at hs h) (cpu_at s.cpus (guest_place h)) h
          go (yes q) = rw q caller
          go (no n) =
              let i = enrolled_guest hs h e in
              let same = k.others h i n in
              let before = settled_before s.spaces s.guests s.cpus ok.guests h (enrolled_of s.guests h i (rw same at (enrolled_is hs h e))) in
              let counts = others_made s.spaces j x ok.spaces.len j-lt free h n in
              record {
                primary = counts.0 ∙ before.primary;
                allowed = rw (counts.1, same) before.allowed;
                allowance = rw same before.allowance;
                list_low = rw same before.list_low;
                list_high = rw same before.list_high;
                mode = rw same before.mode;
                key = before.key;
              }

      other : (h : ℕ) → (guest_at hs h).enrolled ≡ false → h ≢ x.owner
      other h a e = true_false (enrolled_is hs x.owner k.caller) (rw e at a)

  -- a permit is for a live space, whose owner is enrolled
  permits_made : PermitsOk hs (set s.spaces j x) s.permits
  permits_made = record {
    len = ok.permits.len;
    basis = λ u h b i a.
        let old = ok.permits.basis u h b i a in
        let same = same_space u old.live in
        record {
          live = rw same old.live;
          sharing = rw (same, k.kept (space_at s.spaces u).owner (ok.spaces.owner u old.live)) old.sharing;
          guest = still s.guests hs x.owner k h old.guest;
          other = rw same old.other;
        };
  }

  -- a valid entry names a live space
  entries_made : EntriesOk hs (set s.spaces j x) s.permits s.entries
  entries_made = record {
    len = ok.entries.len;
    sequence = ok.entries.sequence;
    basis = λ h n u r i b e.
        let old = ok.entries.basis h n u r i b e in
        let same = same_space u old.live in
        record { slot = old.slot; live = rw same old.live; right = rw same old.right };
    above = λ h n i b l. ok.entries.above h n i b (omega (arith, no_shorter s.guests hs x.owner k h i));
  }

-- the space that both calls make, and the spaces after them
abbrev spaces_after : State → (guest name pages : ℕ) → List Space
spaces_after s g name pages = set s.spaces (free_slot s.spaces) (new_space s g name pages)

-- the law of both calls: hs are the guests after the call
sound_made : (s : State) (hs : List Guest) (g name pages : ℕ) (c : Change) (d : Decision) → Sound s
    → applied s c ≡ space_added (with_guests s hs) (free_slot s.spaces) (new_space s g name pages) → Made s pages c d
    → Keeps s.guests hs g → Settled (spaces_after s g name pages) (guest_at hs g) (cpu_at s.cpus (guest_place g)) g
    → 1 ≤ pages → good_name name ≡ true → ((u : ℕ) → Live s.spaces u → (space_at s.spaces u).owner ≡ g → (space_at s.spaces u).name ≡ name → ⊥)
    → Sound (after s d)
unfolding new_space frame_of
sound_made s hs g name pages c d ok to m k caller pos good new = rw (m.is, to) (record {
  head = record {
    frames_low = ok.head.frames_low;
    frames_high = ok.head.frames_high;
    next_low = omega arith;
    next_high = omega (arith, m.next);
  };
  spaces = spaces_made s.spaces j x ok.spaces.len m.slot free s.frames s.next s.guests hs (layout s) (set s.spaces j x) ok.spaces (still s.guests hs g k) fits placed;
  guests = guests_made s ok hs x k j m.slot free caller;
  permits = permits_made s ok hs x k j m.slot free;
  entries = entries_made s ok hs x k j m.slot free;
  cells = cells_made;
})
  where
    j : ℕ
    j = free_slot s.spaces

    x : Space
    x = new_space s g name pages

    free : (space_at s.spaces j).id ≡ 0
    free = (lowest_slot s.spaces).found m.slot

    run : IsRun s pages (free_run s pages)
    run = (lowest_run s pages).found m.run

    fits : Fits s.next hs s.spaces x
    fits = record {
      live = ok.head.next_low;
      id = refl;
      owner = k.caller;
      pages = pos;
      name = good;
      new = new;
    }

    -- the run that was free
    own_frame : (p : ℕ) → frame_of (set s.spaces j x) j p ≡ free_run s pages + p
    own_frame p = ap (λ (y : Space). y.first + p) (get_or-set_same s.spaces j x no_space (rw ok.spaces.len m.slot))

    placed : Placed s.frames s.spaces j x (layout s) (set s.spaces j x)
    placed = record {
      others = λ u p l. ap (λ (y : Space). y.first + p) (stands s.spaces j x ok.spaces.len m.slot free u l);
      inside = λ p h. rw (own_frame p) (omega (arith, run.inside));
      own = λ p q a b e. omega (arith, sym (own_frame p) ∙ e ∙ own_frame q);
      free = λ u p q l a b e. run.free q b u (live_slot s.spaces u 32 ok.spaces.len l) l (p, a, e ∙ own_frame q);
    }

    -- a frame that is free after the call was free before it
    cells_made : CellsOk (set s.spaces j x) (set s.spaces j x) s.cells
    cells_made = record {
      len = ok.cells.len;
      key = ok.cells.key;
      free = λ f out. ok.cells.free f (λ u b l (p, h, e).
          let same = stands s.spaces j x ok.spaces.len m.slot free u l in
          out u b (rw same l) (p, rw same h, placed.others u p l ∙ e));
    }

-- an enrolled guest has a space named BASE
base_found : (ss : List Space) (g : ℕ) → primaries ss g ≡ 1 → slot_named ss g base_name < 32
unfolding primary_slot
base_found = primary_lt

-- CREATE: the name is not BASE, since the caller has a space of that name, and there is room for one more data space.
pub sound_create : (s : State) (g name pages : ℕ) (d : Decision) → Sound s → enrolled s.guests g ≡ true → good_name name ≡ true → 1 ≤ pages → Created s g name pages d → Sound (after s d)
unfolding new_space
sound_create s g name pages d ok e good pos c =
    sound_made s s.guests g name pages _ d ok refl c.made keeps caller pos good
    (λ u l. named_none s.spaces g name u c.new (live_slot s.spaces u 32 ok.spaces.len l) l)
  where
    keeps : Keeps s.guests s.guests g
    keeps = record { len = ok.guests.len; caller = e; kept = λ h _. refl; others = λ h _ _. refl; list = omega arith }

    before : Settled s.spaces (guest_at s.guests g) (cpu_at s.cpus (guest_place g)) g
    before = settled_before s.spaces s.guests s.cpus ok.guests g e

    not_base : name ≢ base_name
    not_base q = omega (arith, base_found s.spaces g before.primary, rw q at c.new)

    counts : (primaries (spaces_after s g name pages) g ≡ primaries s.spaces g) × (data_spaces (spaces_after s g name pages) g ≡ data_spaces s.spaces g + 1)
    counts =
        data_made s.spaces (free_slot s.spaces) (new_space s g name pages) ok.spaces.len c.made.slot ((lowest_slot s.spaces).found c.made.slot)
        ok.head.next_low not_base

    caller : Settled (spaces_after s g name pages) (guest_at s.guests g) (cpu_at s.cpus (guest_place g)) g
    caller = record {
      primary = counts.0 ∙ before.primary;
      allowed = omega (arith, counts.1, before.allowed, c.room);
      allowance = before.allowance;
      list_low = before.list_low;
      list_high = before.list_high;
      mode = before.mode;
      key = before.key;
    }

base_good : good_name base_name ≡ true
unfolding good_name name_form name_bytes name_rest blanks both either choose
base_good = refl

-- ENROL: the caller owned no space, since owners are enrolled; after the call it owns its primary alone.
pub sound_enrol : (s : State) (g : ℕ) (x : Settings) (d : Decision) → Sound s → IsGuest g → (guest_at s.guests g).enrolled ≡ false → 1 ≤ x.pages → x.allowance ≤ 31 → 1 ≤ x.list → x.list ≤ 30
    → Made s x.pages (enrolling s g x) d → Sound (after s d)
unfolding new_guest new_space
sound_enrol s g x d ok i out pos small low high m =
    sound_made s hs g base_name x.pages _ d ok refl m keeps caller pos base_good (λ u l o _. owns_none u l o)
  where
    y : Guest
    y = new_guest x

    hs : List Guest
    hs = set s.guests (guest_place g) y

    mine : guest_at hs g ≡ y
    mine = get_or-set_same s.guests (guest_place g) y no_guest (omega (arith, ok.guests.len))

    others : (h : ℕ) → IsGuest h → h ≢ g → guest_at hs h ≡ guest_at s.guests h
    others h k n = get_or-set_other s.guests (guest_place g) (guest_place h) y no_guest (λ q. n (omega arith))

    not_caller : (h : ℕ) → enrolled s.guests h ≡ true → h ≢ g
    not_caller h e q = true_false (enrolled_is s.guests h e) (rw q out)

    owns_none : (u : ℕ) → Live s.spaces u → (space_at s.spaces u).owner ≡ g → ⊥
    owns_none u l = not_caller (space_at s.spaces u).owner (ok.spaces.owner u l)

    keeps : Keeps s.guests hs g
    keeps = record {
      len = length-set s.guests (guest_place g) y ∙ ok.guests.len;
      caller = enrolled_of hs g i (ap (λ (z : Guest). z.enrolled) mine);
      kept = λ h e. others h (enrolled_guest s.guests h e) (not_caller h e);
      others = others;
      list = omega (arith, ap (λ (z : Guest). z.list) (ok.guests.absent g i out));
    }

    counts : (primaries (spaces_after s g base_name x.pages) g ≡ primaries s.spaces g + 1) × (data_spaces (spaces_after s g base_name x.pages) g ≡ data_spaces s.spaces g)
    counts =
        primary_made s.spaces (free_slot s.spaces) (new_space s g base_name x.pages) ok.spaces.len m.slot ((lowest_slot s.spaces).found m.slot)
        ok.head.next_low refl

    caller : Settled (spaces_after s g base_name x.pages) (guest_at hs g) (cpu_at s.cpus (guest_place g)) g
    caller = rw mine (record {
      primary = omega (arith, counts.0, no_primaries s.spaces g owns_none);
      allowed = omega (arith, counts.1, no_data_lem s.spaces g owns_none);
      allowance = small;
      list_low = low;
      list_high = high;
      mode = λ e. true_false e (ap (λ (z : Cpu). z.mode) (ok.guests.idle g i out));
      key = omega (arith, ap (λ (z : Cpu). z.key) (ok.guests.idle g i out));
    })
