-- The test of soundness on one space, two spaces, one guest, one permit and one entry: what it decides. Assumes nothing.
use Prim.Native.Nat.{ℕ, ◌+◌, ◌-◌, ◌≤◌, ◌<◌}
use mathlib.Core.Bool.{Bool, true, false}
use mathlib.Core.List.{List}
use mathlib.Core.Logic.{◌≢◌, ◌⊎◌, inl, inr}
use mathlib.Core.Path.{◌≡◌, refl, sym, ◌∙◌}
use native.Mathlib.Decide.{dec_le}
use native.Mathlib.Omega.{arith}
use lib.ListN.{length, get_or, replicate, get_or-replicate}
use lib.Seq.{ext_get_or}
use Rattle.lists.specs.Choice.{choose}
use Rattle.lists.specs.Decides.{Decides}
use Rattle.lists.specs.Places.{every}
use Rattle.lists.proofs.Choice.{not_so}
use Rattle.lists.proofs.Decides.{d_le, d_lt, d_eq, d_is, d_isnt, d_both, d_either, d_implies, d_not, d_if, d_map, d_every, d_from}
use Rattle.model.specs.declared.Cell.{Cell}
use Rattle.model.specs.declared.Cpu.{Cpu}
use Rattle.model.specs.declared.Entry.{Entry}
use Rattle.model.specs.declared.Guest.{Guest}
use Rattle.model.specs.declared.Permit.{Permit}
use Rattle.model.specs.declared.Right.{Right}
use Rattle.model.specs.declared.Right.TheVariants.{Read}
use Rattle.model.specs.declared.Space.{Space}
use Rattle.model.specs.declared.Standing.{Standing}
use Rattle.model.specs.declared.Standing.TheVariants.{Unused, Valid, Revoked}
use Rattle.model.specs.Changes.{allows}
use Rattle.model.specs.Names.{good_name}
use Rattle.model.specs.Searches.{enrolled, is_unused}
use Rattle.model.specs.Sizes.{max_allowance, max_list, guest_count, slot_count, register_count, max_key}
use Rattle.model.specs.Sound.{IsGuest, IsEntry, PermitGround, EntryGround}
use Rattle.model.specs.SoundTest.{live_test, dead_test, slot_test, frames_apart, same_name, pair_test, enrolled_test, absent_test, permit_test, ground_test, standing_test, untouched_test, blank_test}
use Rattle.model.specs.Tables.{no_space, no_guest, zero_cpu, unused_entry, no_cell, space_at, live, guest_at, grant_at}
use Rattle.model.proofs.Searches.{live_to, live_of, not_live, d_live, unused_is}

pub d_guests : {f : ℕ → Bool} {P : ℕ → Type 0} → ((k : ℕ) → Decides (f k) (P (k + 1))) → Decides (every f guest_count) ((g : ℕ) → IsGuest g → P g)
d_guests p = d_map
    (λ h g i. h g i.low (omega arith))
    (λ h g l u. h g (record { low = l; high = omega arith }))
    (d_from 1 guest_count p)

pub d_numbers : {f : ℕ → Bool} {P : ℕ → Type 0} → ((k : ℕ) → Decides (f k) (P (k + 2))) → Decides (every f 30) ((n : ℕ) → IsEntry n → P n)
d_numbers p = d_map
    (λ h n i. h n i.low (omega arith))
    (λ h n l u. h n (record { low = l; high = omega arith }))
    (d_from 2 30 p)

-- A space. The facts are what the test says of a live one.
pub record LiveFacts (f n : ℕ) (gs : List Guest) (x : Space) : Type 0 where
  pub owner : enrolled gs x.owner ≡ true
  pub pages : 1 ≤ x.pages
  pub inside : (p : ℕ) → p < x.pages → x.first + p < f
  pub id_below : x.id < n
  pub name : good_name x.name ≡ true

module _ (f n : ℕ) (gs : List Guest) (x : Space) where
  live_decides : Decides (live_test f n gs x) (LiveFacts f n gs x)
  unfolding live_test
  live_decides = d_map
      (λ (owner, (pages, (end, (id, name)))). record { owner = owner; pages = pages; inside = λ p l. omega arith; id_below = id; name = name })
      (λ ok. (ok.owner, (ok.pages, (all ok, (ok.id_below, ok.name)))))
      (d_both (d_is (enrolled gs x.owner))
      (d_both (d_le 1 x.pages)
      (d_both (d_le (x.first + x.pages) f)
      (d_both (d_lt x.id n) (d_is (good_name x.name))))))
    where
      -- all frames are inside because the last one is
      all : LiveFacts f n gs x → x.first + x.pages ≤ f
      all ok = omega (arith, ok.inside (x.pages - 1) (omega arith))

  dead_decides : x.id ≡ 0 → Decides (dead_test x) (x ≡ no_space)
  unfolding dead_test
  dead_decides z = d_map
      (λ (owner, (name, (first, pages))) j. record { id = z j; owner = owner j; name = name j; first = first j; pages = pages j })
      (λ e. rw e (refl, (refl, (refl, refl))))
      (d_both (d_eq x.owner 0) (d_both (d_eq x.name 0) (d_both (d_eq x.first 0) (d_eq x.pages 0))))

  pub slot_decides : Decides (slot_test f n gs x) ((1 ≤ x.id → LiveFacts f n gs x) × (x.id ≡ 0 → x ≡ no_space))
  unfolding slot_test
  slot_decides = d_map
      (λ (used, zeros). ((λ l. used (live_of x l)), (λ z. zeros (not_so (live x) (λ e. omega (arith, live_to x e))))))
      (λ (used, zeros). ((λ e. used (live_to x e)), (λ e. zeros (not_live x e))))
      (d_if (live x) (λ _. live_decides) (λ e. dead_decides (not_live x e)))

-- Two spaces. Their frames are two runs, one after the other.
abbrev pub Apart : Space → Space → Type 0
Apart x y = (x.first + x.pages ≤ y.first) ⊎ (y.first + y.pages ≤ x.first)

pub record PairFacts (x y : Space) : Type 0 where
  pub frames : Apart x y
  pub ids : x.id ≢ y.id
  pub names : x.owner ≡ y.owner → x.name ≢ y.name

module _ (x y : Space) where
  pub apart_to : Apart x y → (p q : ℕ) → p < x.pages → q < y.pages → x.first + p ≢ y.first + q
  apart_to (inl a) p q hp hq e = omega arith
  apart_to (inr a) p q hp hq e = omega arith

  -- two runs that overlap both have the greater of their first frames
  pub apart_of : 1 ≤ x.pages → 1 ≤ y.pages → ((p q : ℕ) → p < x.pages → q < y.pages → x.first + p ≢ y.first + q) → Apart x y
  apart_of hx hy h = go (dec_le (x.first + x.pages) y.first) (dec_le (y.first + y.pages) x.first)
    where
      go : Dec (x.first + x.pages ≤ y.first) → Dec (y.first + y.pages ≤ x.first) → Apart x y
      go (yes a) d = inl a
      go (no a) (yes b) = inr b
      go (no a) (no b) = absurd (h (y.first - x.first) (x.first - y.first) (omega arith) (omega arith) (omega arith))

  pub pair_decides : Decides (pair_test x y) (1 ≤ x.id → 1 ≤ y.id → PairFacts x y)
  unfolding pair_test frames_apart same_name
  pair_decides = d_map
      (λ h l m. let (frames, (ids, names)) = h (l, m) in record { frames = frames; ids = ids; names = λ o e. names (o, e) })
      (λ ok (l, m). ((ok l m).frames, ((ok l m).ids, λ (o, e). (ok l m).names o e)))
      (d_implies (d_both (d_live x) (d_live y))
      (d_both (d_either (d_le (x.first + x.pages) y.first) (d_le (y.first + y.pages) x.first))
      (d_both (d_not (d_eq x.id y.id)) (d_not (d_both (d_eq x.owner y.owner) (d_eq x.name y.name))))))

-- A guest with its CPU. The facts are what the test says of an enrolled one.
pub record EnrolledFacts (x : Guest) (c : Cpu) (primaries data_spaces : ℕ) : Type 0 where
  pub primary : primaries ≡ 1
  pub allowed : data_spaces ≤ x.allowance
  pub allowance : x.allowance ≤ max_allowance
  pub list_low : 1 ≤ x.list
  pub list_high : x.list ≤ max_list
  pub mode : c.mode ≡ true → x.asf ≡ true
  pub key : c.key ≤ max_key

-- primary mode and zeros: with sixteen registers, the CPU of zeros
abbrev pub Idle : Cpu → Type 0
Idle c = (c.mode ≡ false) × ((c.key ≡ 0) × ((r : ℕ) → r < register_count → get_or c.registers r 0 ≡ 0))

module _ (c : Cpu) where
  pub idle_to : length c.registers ≡ register_count → Idle c → c ≡ zero_cpu
  idle_to len (mode, (key, zero-at)) = λ j. record { registers = zeros j; mode = mode j; key = key j }
    where
      zeros : c.registers ≡ replicate register_count 0
      zeros = ext_get_or 0 c.registers (replicate register_count 0) len (λ r l.
          let b : r < register_count = rw len at l in
          zero-at r b ∙ sym (get_or-replicate register_count r 0 0 b))

  pub idle_of : c ≡ zero_cpu → Idle c
  idle_of e = rw e (refl, (refl, λ r l. get_or-replicate register_count r 0 0 l))

abbrev pub GuestFacts : Guest → Cpu → (primaries data_spaces : ℕ) → Type 0
GuestFacts x c p d = (x.enrolled ≡ true → EnrolledFacts x c p d) × (x.enrolled ≡ false → (x ≡ no_guest) × Idle c)

module _ (x : Guest) (c : Cpu) where
  enrolled_decides : (p d : ℕ) → Decides (enrolled_test x c p d) (EnrolledFacts x c p d)
  unfolding enrolled_test
  enrolled_decides p d = d_map
      (λ (primary, (allowed, (allowance, (low, (high, (key, mode)))))). record { primary = primary; allowed = allowed; allowance = allowance; list_low = low; list_high = high; mode = mode; key = key })
      (λ ok. (ok.primary, (ok.allowed, (ok.allowance, (ok.list_low, (ok.list_high, (ok.key, ok.mode)))))))
      (d_both (d_eq p 1)
      (d_both (d_le d x.allowance)
      (d_both (d_le x.allowance max_allowance)
      (d_both (d_le 1 x.list)
      (d_both (d_le x.list max_list)
      (d_both (d_le c.key max_key) (d_implies (d_is c.mode) (d_is x.asf))))))))

  absent_decides : x.enrolled ≡ false → Decides (absent_test x c) ((x ≡ no_guest) × Idle c)
  unfolding absent_test
  absent_decides n = d_map
      (λ (allowance, (share, (list, (asf, idle)))). ((λ j. record { enrolled = n j; allowance = allowance j; share = share j; list = list j; asf = asf j }), idle))
      (λ (e, idle). rw e (refl, (refl, (refl, (refl, idle)))))
      (d_both (d_eq x.allowance 0)
      (d_both (d_isnt x.share)
      (d_both (d_eq x.list 0)
      (d_both (d_isnt x.asf)
      (d_both (d_isnt c.mode)
      (d_both (d_eq c.key 0) (d_every register_count (λ r. d_eq (get_or c.registers r 0) 0))))))))

  pub guest_decides : (p d : ℕ) → Decides (choose x.enrolled (enrolled_test x c p d) (absent_test x c)) (GuestFacts x c p d)
  guest_decides p d = d_if x.enrolled (λ _. enrolled_decides p d) absent_decides

-- A permit.
pub permit_decides : (gs : List Guest) (ss : List Space) (ps : List Permit) (u h : ℕ) → Decides (permit_test gs ss ps u h) (allows (grant_at ps u h) Read ≡ true → PermitGround gs ss u h)
unfolding permit_test
permit_decides gs ss ps u h =
    let x = space_at ss u in
    d_implies (d_is (allows (grant_at ps u h) Read)) (d_map
    (λ (live, (sharing, (guest, other))). record { live = live; sharing = sharing; guest = guest; other = other })
    (λ ok. (ok.live, (ok.sharing, (ok.guest, ok.other))))
    (d_both (d_live x)
    (d_both (d_is (guest_at gs x.owner).share)
    (d_both (d_is (enrolled gs h)) (d_not (d_eq h x.owner))))))

-- An entry.
pub untouched_decides : (e : Entry) → Decides (untouched_test e) (e ≡ unused_entry)
unfolding untouched_test is_unused
untouched_decides e = d_map
    (λ (unused, sequence) j. record { standing = unused_is e.standing unused j; sequence = sequence j })
    (λ q. rw q (refl, refl))
    (d_both (d_is (is_unused e.standing)) (d_eq e.sequence 0))

module _ (ss : List Space) (ps : List Permit) (g : ℕ) where
  ground_decides : (u : ℕ) (r : Right) → Decides (ground_test ss ps g u r) (EntryGround ss ps g u r)
  unfolding ground_test
  ground_decides u r = d_map
      (λ (slot, (live, right)). record { slot = slot; live = live; right = right })
      (λ ok. (ok.slot, (ok.live, ok.right)))
      (d_both (d_lt u slot_count)
      (d_both (d_live (space_at ss u)) (d_either (d_eq (space_at ss u).owner g) (d_is (allows (grant_at ps u g) r)))))

  pub standing_decides : (x : Standing) → Decides (standing_test ss ps g x) ((u : ℕ) (r : Right) → x ≡ Valid u r → EntryGround ss ps g u r)
  unfolding standing_test
  standing_decides Unused = record { to = λ _ u r e. let z : ◌≡◌ {A = ℕ} 0 1 = cc in absurd (omega arith); of = λ _. refl }
  standing_decides (Valid v q) = d_map
      (λ w u r e. let a : v ≡ u = cc in let b : q ≡ r = cc in rw (← a, ← b) w)
      (λ h. h v q refl)
      (ground_decides v q)
  standing_decides Revoked = record { to = λ _ u r e. let z : ◌≡◌ {A = ℕ} 0 1 = cc in absurd (omega arith); of = λ _. refl }

-- A cell.
pub blank_decides : (c : Cell) → Decides (blank_test c) (c ≡ no_cell)
unfolding blank_test
blank_decides c = d_map
    (λ (key, mark) j. record { key = key j; mark = mark j })
    (λ e. rw e (refl, refl))
    (d_both (d_eq c.key 0) (d_isnt c.mark))
