-- The test of soundness is true exactly for the states that are sound: `sound_decides`, table by table. The statements
-- speak of every slot, guest and entry, the test of the places of the tables. Assumes nothing.
use Prim.Native.Nat.{ℕ, ◌+◌, ◌-◌, ◌≤◌, ◌<◌}
use mathlib.Core.Bool.{true}
use mathlib.Core.List.{List}
use mathlib.Core.Logic.{◌⊎◌, inl, inr, ⊎_elim}
use mathlib.Core.Path.{◌≡◌, ap}
use native.Mathlib.Decide.{ℕ_discrete, dec_le}
use native.Mathlib.Omega.{arith}
use lib.ListN.{length, get_or, get_or-eq_default}
use Rattle.lists.specs.Decides.{Decides}
use Rattle.lists.proofs.Decides.{d_le, d_lt, d_eq, d_both, d_either, d_implies, d_map, d_every}
use Rattle.model.specs.declared.Cell.{Cell}
use Rattle.model.specs.declared.Cpu.{Cpu}
use Rattle.model.specs.declared.Entry.{Entry}
use Rattle.model.specs.declared.Guest.{Guest}
use Rattle.model.specs.declared.Permit.{Permit}
use Rattle.model.specs.declared.Right.{Right}
use Rattle.model.specs.declared.Space.{Space}
use Rattle.model.specs.declared.Standing.TheVariants.{Valid}
use Rattle.model.specs.declared.State.{State}
use Rattle.model.specs.Frames.{Layout, layout, frame_of}
use Rattle.model.specs.Fresh.{frames_in_range}
use Rattle.model.specs.Searches.{enrolled, primaries, data_spaces}
use Rattle.model.specs.Sizes.{max_frames, spent_identification, guest_count, slot_count, register_count, max_key}
use Rattle.model.specs.Sound.{Live, IsGuest, IsEntry, HeadOk, SpacesOk, GuestsOk, PermitsOk, EntryGround, EntriesOk, Free, CellsOk, Sound}
use Rattle.model.specs.SoundTest.{head_test, apart_test, spaces_test, guest_test, guests_test, permits_test, entry_test, entries_test, cell_test, cells_test, sound}
use Rattle.model.specs.Tables.{no_space, no_guest, unused_entry, no_cell, space_at, guest_at, guest_place, cpu_at, entry_at, cell_at}
use Rattle.model.proofs.Runs.{d_frame}
use Rattle.model.proofs.Searches.{live_slot, enrolled_guest, enrolled_is, enrolled_of}
use Rattle.model.proofs.SoundParts.{d_guests, d_numbers, LiveFacts, PairFacts, slot_decides, apart_to, apart_of, pair_decides, EnrolledFacts, idle_to, idle_of, GuestFacts, guest_decides, permit_decides, untouched_decides, standing_decides, blank_decides}

pub head_decides : (f n : ℕ) → Decides (head_test f n) (HeadOk f n)
unfolding head_test frames_in_range
head_decides f n = d_map
    (λ ((a, b), (c, d)). record { frames_low = a; frames_high = b; next_low = c; next_high = d })
    (λ ok. ((ok.frames_low, ok.frames_high), (ok.next_low, ok.next_high)))
    (d_both (d_both (d_le 1 f) (d_le f max_frames)) (d_both (d_le 1 n) (d_le n spent_identification)))

module _ (f n : ℕ) (gs : List Guest) (ss : List Space) where
  -- what the test says of the places of the table
  abbrev SpacesFacts : Type 0
  SpacesFacts =
      (length ss ≡ slot_count)
      × (((u : ℕ) → u < slot_count → (Live ss u → LiveFacts f n gs (space_at ss u)) × ((space_at ss u).id ≡ 0 → space_at ss u ≡ no_space))
      × ((u : ℕ) → u < slot_count → (v : ℕ) → v < slot_count → (u ≡ v) ⊎ (Live ss u → Live ss v → PairFacts (space_at ss u) (space_at ss v))))

  spaces_to : SpacesFacts → SpacesOk f n gs ss ss
  unfolding frame_of
  spaces_to (len, (slots, pairs)) = record {
    len = len;
    owner = λ u l. (at u l).owner;
    pages = λ u l. (at u l).pages;
    inside = λ u p l b. (at u l).inside p b;
    apart = λ u v p q lu lv hp hq e.
        let s = same u v lu lv (λ w. apart_to (space_at ss u) (space_at ss v) w.frames p q hp hq e) in
        (s, omega (arith, ap (λ x. (space_at ss x).first) s));
    id_below = λ u l. (at u l).id_below;
    id_own = λ u v lu lv e. same u v lu lv (λ w. w.ids e);
    name = λ u l. (at u l).name;
    name_own = λ u v lu lv o e. same u v lu lv (λ w. w.names o e);
    dead = λ u z. zeros u z (dec_le slot_count u);
  }
    where
      slot : (u : ℕ) → Live ss u → u < slot_count
      slot u l = live_slot ss u slot_count len l

      at : (u : ℕ) → Live ss u → LiveFacts f n gs (space_at ss u)
      at u l = (slots u (slot u l)).0 l

      -- two live slots that clash are one
      same : (u v : ℕ) → Live ss u → Live ss v → (PairFacts (space_at ss u) (space_at ss v) → ⊥) → u ≡ v
      same u v lu lv clash = ⊎_elim (λ e. e) (λ w. absurd (clash (w lu lv))) (pairs u (slot u lu) v (slot v lv))

      -- a slot past the table reads as zeros
      zeros : (u : ℕ) → (space_at ss u).id ≡ 0 → Dec (slot_count ≤ u) → space_at ss u ≡ no_space
      zeros u z (yes l) = get_or-eq_default ss no_space {n = u} (omega arith)
      zeros u z (no l) = (slots u (omega arith)).1 z

  spaces_of : SpacesOk f n gs ss ss → SpacesFacts
  unfolding frame_of
  spaces_of ok = (ok.len, ((λ u _. (at u, ok.dead u)), λ u _ v _. pair u v (ℕ_discrete u v)))
    where
      at : (u : ℕ) → Live ss u → LiveFacts f n gs (space_at ss u)
      at u l = record {
        owner = ok.owner u l;
        pages = ok.pages u l;
        inside = λ p b. ok.inside u p l b;
        id_below = ok.id_below u l;
        name = ok.name u l;
      }

      pair : (u v : ℕ) → Dec (u ≡ v) → (u ≡ v) ⊎ (Live ss u → Live ss v → PairFacts (space_at ss u) (space_at ss v))
      pair u v (yes e) = inl e
      pair u v (no ne) = inr (λ lu lv. record {
        frames = apart_of (space_at ss u) (space_at ss v) (ok.pages u lu) (ok.pages v lv) (λ p q hp hq e. ne (ok.apart u v p q lu lv hp hq e).0);
        ids = λ e. ne (ok.id_own u v lu lv e);
        names = λ o e. ne (ok.name_own u v lu lv o e);
      })

  pub spaces_decides : Decides (spaces_test f n gs ss) (SpacesOk f n gs ss ss)
  unfolding spaces_test apart_test
  spaces_decides = d_map spaces_to spaces_of
      (d_both (d_eq (length ss) slot_count)
      (d_both (d_every slot_count (λ u. slot_decides f n gs (space_at ss u)))
      (d_every slot_count (λ u. d_every slot_count (λ v. d_either (d_eq u v) (pair_decides (space_at ss u) (space_at ss v)))))))

module _ (ss : List Space) (gs : List Guest) (cs : List Cpu) where
  abbrev EnrolledAt : (guest : ℕ) → Type 0
  EnrolledAt g = EnrolledFacts (guest_at gs g) (cpu_at cs (guest_place g)) (primaries ss g) (data_spaces ss g)

  abbrev GuestAt : (guest : ℕ) → Type 0
  GuestAt g = GuestFacts (guest_at gs g) (cpu_at cs (guest_place g)) (primaries ss g) (data_spaces ss g)

  abbrev GuestsFacts : Type 0
  GuestsFacts =
      (length gs ≡ guest_count)
      × ((length cs ≡ guest_count)
      × (((k : ℕ) → k < guest_count → length (cpu_at cs k).registers ≡ register_count) × ((g : ℕ) → IsGuest g → GuestAt g)))

  guests_to : GuestsFacts → GuestsOk ss gs cs
  guests_to (len, (cpus, (registers, guests))) = record {
    len = len;
    cpus = cpus;
    registers = registers;
    primary = λ g e. (at g e).primary;
    allowed = λ g e. (at g e).allowed;
    allowance = λ g e. (at g e).allowance;
    list_low = λ g e. (at g e).list_low;
    list_high = λ g e. (at g e).list_high;
    mode = λ g e. (at g e).mode;
    key = λ g e. (at g e).key;
    absent = λ g i n. ((guests g i).1 n).0;
    idle = λ g i n. idle_to (cpu_at cs (guest_place g)) (registers (guest_place g) (omega arith)) ((guests g i).1 n).1;
  }
    where
      at : (g : ℕ) → enrolled gs g ≡ true → EnrolledAt g
      at g e = (guests g (enrolled_guest gs g e)).0 (enrolled_is gs g e)

  guests_of : GuestsOk ss gs cs → GuestsFacts
  guests_of ok = (ok.len, (ok.cpus, (ok.registers, λ g i. (at g i, λ n. (ok.absent g i n, idle_of (cpu_at cs (guest_place g)) (ok.idle g i n))))))
    where
      at : (g : ℕ) → IsGuest g → (guest_at gs g).enrolled ≡ true → EnrolledAt g
      at g i y =
          let e = enrolled_of gs g i y in
          record {
            primary = ok.primary g e;
            allowed = ok.allowed g e;
            allowance = ok.allowance g e;
            list_low = ok.list_low g e;
            list_high = ok.list_high g e;
            mode = ok.mode g e;
            key = ok.key g e;
          }

  -- guest k + 1 stands at place k
  place_decides : (k : ℕ) → Decides (guest_test ss gs cs k) (GuestAt (k + 1))
  unfolding guest_test
  place_decides k =
      let e : k + 1 - 1 ≡ k = omega arith in
      rw e (guest_decides (get_or gs k no_guest) (cpu_at cs k) (primaries ss (k + 1)) (data_spaces ss (k + 1)))

  pub guests_decides : Decides (guests_test ss gs cs) (GuestsOk ss gs cs)
  unfolding guests_test
  guests_decides = d_map guests_to guests_of
      (d_both (d_eq (length gs) guest_count)
      (d_both (d_eq (length cs) guest_count)
      (d_both (d_every guest_count (λ k. d_eq (length (cpu_at cs k).registers) register_count)) (d_guests place_decides))))

pub permits_decides : (gs : List Guest) (ss : List Space) (ps : List Permit) → Decides (permits_test gs ss ps) (PermitsOk gs ss ps)
unfolding permits_test
permits_decides gs ss ps = d_map
    (λ (len, basis). record { len = len; basis = λ u h b i. basis u b h i })
    (λ ok. (ok.len, λ u b h i. ok.basis u h b i))
    (d_both (d_eq (length ps) 256) (d_every slot_count (λ u. d_guests (λ k. permit_decides gs ss ps u (k + 1)))))

module _ (gs : List Guest) (ss : List Space) (ps : List Permit) (es : List Entry) where
  abbrev EntryFacts : (guest number : ℕ) → Type 0
  EntryFacts g n =
      ((entry_at es g n).sequence < 256)
      × (((u : ℕ) (r : Right) → (entry_at es g n).standing ≡ Valid u r → EntryGround ss ps g u r)
      × ((guest_at gs g).list + 1 < n → entry_at es g n ≡ unused_entry))

  entry_decides : (g n : ℕ) → Decides (entry_test gs ss ps es g n) (EntryFacts g n)
  unfolding entry_test
  entry_decides g n =
      let e = entry_at es g n in
      d_both (d_lt e.sequence 256)
      (d_both (standing_decides ss ps g e.standing) (d_implies (d_lt ((guest_at gs g).list + 1) n) (untouched_decides e)))

  pub entries_decides : Decides (entries_test gs ss ps es) (EntriesOk gs ss ps es)
  unfolding entries_test
  entries_decides = d_map
      (λ (len, entries). record {
        len = len;
        sequence = λ g n i j. (entries g i n j).0;
        basis = λ g n u r i j. (entries g i n j).1.0 u r;
        above = λ g n i j. (entries g i n j).1.1;
      })
      (λ ok. (ok.len, λ g i n j. (ok.sequence g n i j, ((λ u r. ok.basis g n u r i j), ok.above g n i j))))
      (d_both (d_eq (length es) 240)
      (d_guests {P = λ g. (n : ℕ) → IsEntry n → EntryFacts g n} (λ k. d_numbers (λ i. entry_decides (k + 1) (i + 2)))))

module _ (ss : List Space) (l : Layout) (cs : List Cell) where
  cell_decides : (f : ℕ) → Decides (cell_test l ss cs f) (((cell_at cs f).key ≤ max_key) × (Free l ss f → cell_at cs f ≡ no_cell))
  unfolding cell_test
  cell_decides f = d_both (d_le (cell_at cs f).key max_key) (d_implies (d_frame l ss f) (blank_decides (cell_at cs f)))

  pub cells_decides : Decides (cells_test l ss cs) (CellsOk ss l cs)
  unfolding cells_test
  cells_decides = d_map
      (λ (len, cells). record {
        len = len;
        key = λ f. at f (λ (c : Cell). c.key ≤ max_key) len (omega arith) (λ b. (cells f b).0);
        free = λ f out. at f (λ (c : Cell). c ≡ no_cell) len (λ j. no_cell) (λ b. (cells f b).1 out);
      })
      (λ ok. (ok.len, λ f _. (ok.key f, ok.free f)))
      (d_both (d_eq (length cs) max_frames) (d_every max_frames cell_decides))
    where
      -- past the table a cell reads as blank
      at : (f : ℕ) (P : Cell → Type 0) → length cs ≡ max_frames → P no_cell → (f < max_frames → P (cell_at cs f)) → P (cell_at cs f)
      at f P len none one = go (dec_le max_frames f)
        where
          go : Dec (max_frames ≤ f) → P (cell_at cs f)
          go (yes h) = rw (get_or-eq_default cs no_cell {n = f} (omega arith)) none
          go (no h) = one (omega arith)

pub sound_decides : (s : State) → Decides (sound s) (Sound s)
unfolding sound
sound_decides s = d_map
    (λ (head, (spaces, (guests, (permits, (entries, cells))))). record { head = head; spaces = spaces; guests = guests; permits = permits; entries = entries; cells = cells })
    (λ ok. (ok.head, (ok.spaces, (ok.guests, (ok.permits, (ok.entries, ok.cells))))))
    (d_both (head_decides s.frames s.next)
    (d_both (spaces_decides s.frames s.next s.guests s.spaces)
    (d_both (guests_decides s.spaces s.guests s.cpus)
    (d_both (permits_decides s.guests s.spaces s.permits)
    (d_both (entries_decides s.guests s.spaces s.permits s.entries) (cells_decides s.spaces (layout s) s.cells))))))
