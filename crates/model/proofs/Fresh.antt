-- The fresh state: sound for 1 to 512 frames, and for any other number refused with tables that are not. Assumes nothing.
use Prim.Native.Nat.{ℕ, ◌≤◌, ◌<◌}
use mathlib.Core.Bool.{true, false}
use mathlib.Core.List.{List}
use mathlib.Core.Path.{◌≡◌, refl, ap}
use native.Mathlib.Decide.{dec_le}
use native.Mathlib.Omega.{arith}
use lib.Dec.{leb}
use lib.ListN.{length, get_or, replicate, length-replicate, get_or-replicate, get_or-eq_default}
use borrow.Author.Tests.{leb-true, le-leb, lt-leb}
use Rattle.lists.proofs.Choice.{true_false, not_so, both_left, both_right, both_intro, both_no, yes!, no! }
use Rattle.model.specs.declared.Answer.TheVariants.{Done, Limit}
use Rattle.model.specs.declared.Cpu.{Cpu}
use Rattle.model.specs.declared.Entry.{Entry}
use Rattle.model.specs.declared.Guest.{Guest}
use Rattle.model.specs.declared.Kind.TheVariants.{Frames}
use Rattle.model.specs.declared.Permit.{Permit}
use Rattle.model.specs.declared.Right.TheVariants.{Read}
use Rattle.model.specs.declared.Space.{Space}
use Rattle.model.specs.Answers.{limit_number, number, value}
use Rattle.model.specs.Changes.{allows}
use Rattle.model.specs.Frames.{Layout, layout}
use Rattle.model.specs.Fresh.{empty_tables, frames_in_range, fresh}
use Rattle.model.specs.Searches.{enrolled}
use Rattle.model.specs.Sound.{Live, SpacesOk, GuestsOk, PermitsOk, EntriesOk, Sound, CellsOk}
use Rattle.model.specs.SoundTest.{head_test, sound}
use Rattle.model.specs.Tables.{no_space, no_guest, no_cpu, zero_cpu, no_permit, unused_entry, space_at, guest_at, guest_place, cpu_at, permit_place, entry_place, no_cell, cell_at}
use Rattle.model.specs.declared.Cell.{Cell}
use Rattle.model.proofs.Searches.{enrolled_is}

-- Tables that read as unused at every place are sound. Spaces: none is live.
module _ (F next : ℕ) (gs : List Guest) (ss : List Space) (l : Layout)
    (len : length ss ≡ 32) (bare : (u : ℕ) → space_at ss u ≡ no_space) where
  none_live : (u : ℕ) {A : Type 0} → Live ss u → A
  none_live u h = absurd (omega (arith, ap (λ (x : Space). x.id) (bare u)))

  pub bare_spaces : SpacesOk F next gs ss l
  bare_spaces = record {
    len = len;
    owner = λ u h. none_live u h;
    pages = λ u h. none_live u h;
    inside = λ u p h. none_live u h;
    apart = λ u v p q h. none_live u h;
    id_below = λ u h. none_live u h;
    id_own = λ u v h. none_live u h;
    name = λ u h. none_live u h;
    name_own = λ u v h. none_live u h;
    dead = λ u _. bare u;
  }

-- guests: none is enrolled
module _ (ss : List Space) (gs : List Guest) (cs : List Cpu) (len : length gs ≡ 8) (cpus : length cs ≡ 8)
    (bare : (g : ℕ) → guest_at gs g ≡ no_guest) (idle : (k : ℕ) → k < 8 → cpu_at cs k ≡ zero_cpu) where
  none_enrolled : (g : ℕ) {A : Type 0} → enrolled gs g ≡ true → A
  none_enrolled g e = true_false (enrolled_is gs g e) (ap (λ (x : Guest). x.enrolled) (bare g))

  pub bare_guests : GuestsOk ss gs cs
  bare_guests = record {
    len = len;
    cpus = cpus;
    registers = λ k b. ap (λ (c : Cpu). length c.registers) (idle k b);
    primary = λ g e. none_enrolled g e;
    allowed = λ g e. none_enrolled g e;
    allowance = λ g e. none_enrolled g e;
    list_low = λ g e. none_enrolled g e;
    list_high = λ g e. none_enrolled g e;
    mode = λ g e. none_enrolled g e;
    key = λ g e. none_enrolled g e;
    absent = λ g _ _. bare g;
    idle = λ g i _. idle (guest_place g) (omega arith);
  }

-- permits: none allows anything
pub bare_permits : (gs : List Guest) (ss : List Space) (ps : List Permit) → length ps ≡ 256 → ((k : ℕ) → get_or ps k no_permit ≡ no_permit) → PermitsOk gs ss ps
unfolding allows
bare_permits gs ss ps len bare = record {
  len = len;
  basis = λ u h _ _ e. true_false e (ap (λ (p : Permit). allows p.grant Read) (bare (permit_place u h)));
}

-- entries: none is valid
pub bare_entries : (gs : List Guest) (ss : List Space) (ps : List Permit) (es : List Entry) → length es ≡ 240 → ((k : ℕ) → get_or es k unused_entry ≡ unused_entry) → EntriesOk gs ss ps es
bare_entries gs ss ps es len bare = record {
  len = len;
  sequence = λ g n _ _. omega (arith, ap (λ (e : Entry). e.sequence) (bare (entry_place g n)));
  basis = λ g n u r _ _ e. let z : ◌≡◌ {A = ℕ} 0 1 = cc (ap (λ (x : Entry). x.standing) (bare (entry_place g n))) in absurd (omega arith);
  above = λ g n _ _ _. bare (entry_place g n);
}

-- cells: none has a key or a mark
pub bare_cells : (ss : List Space) (l : Layout) (cs : List Cell) → length cs ≡ 512 → ((f : ℕ) → cell_at cs f ≡ no_cell) → CellsOk ss l cs
bare_cells ss l cs len bare = record {
  len = len;
  key = λ f. omega (arith, ap (λ (c : Cell). c.key) (bare f));
  free = λ f _. bare f;
}

-- a table of one element reads as that element, past its end too
repeated : {A : Type 0} (n k : ℕ) (a : A) → get_or (replicate n a) k a ≡ a
repeated n k a = go (dec_le n k)
  where
    go : Dec (n ≤ k) → get_or (replicate n a) k a ≡ a
    go (yes h) = get_or-eq_default (replicate n a) a {n = k} (rw (length-replicate n a) h)
    go (no h) = get_or-replicate n k a a (omega arith)

pub sound_empty : (F : ℕ) → 1 ≤ F → F ≤ 512 → Sound (empty_tables F 1)
sound_empty F low high =
    let s = empty_tables F 1 in
    record {
      head = omega arith;
      spaces = bare_spaces F 1 s.guests s.spaces (layout s) (length-replicate 32 no_space) (λ u. repeated 32 u no_space);
      guests = bare_guests s.spaces s.guests s.cpus (length-replicate 8 no_guest) (length-replicate 8 zero_cpu) (λ g. repeated 8 (guest_place g) no_guest) (λ k b. get_or-replicate 8 k zero_cpu no_cpu b);
      permits = bare_permits s.guests s.spaces s.permits (length-replicate 256 no_permit) (λ k. repeated 256 k no_permit);
      entries = bare_entries s.guests s.spaces s.permits s.entries (length-replicate 240 unused_entry) (λ k. repeated 240 k unused_entry);
      cells = bare_cells s.spaces (layout s) s.cells (length-replicate 512 no_cell) (λ f. repeated 512 f no_cell);
    }

-- "tables of zeros with F 0, which aren't sound"
pub zeros_unsound : Sound (empty_tables 0 0) → ⊥
zeros_unsound ok = omega (arith, ok.head)

pub zeros_fail : sound (empty_tables 0 0) ≡ false
unfolding sound head_test frames_in_range
zeros_fail = both_no _ (both_no _ (both_no _ (lt-leb 1 0 (omega arith))))

-- What a fresh state for F frames is, for F in range and for any other.
in_range : (F : ℕ) → 1 ≤ F → F ≤ 512 → frames_in_range F ≡ true
unfolding frames_in_range
in_range F low high = both_intro _ _ (le-leb 1 F low) (le-leb F 512 high)

out_of_range : (F : ℕ) → (1 ≤ F → F ≤ 512 → ⊥) → frames_in_range F ≡ false
unfolding frames_in_range
out_of_range F out = not_so _ (λ e. out (leb-true 1 F (both_left _ _ e)) (leb-true F 512 (both_right (leb 1 F) _ e)))

pub fresh_done : (F : ℕ) → 1 ≤ F → F ≤ 512 → fresh F ≡ record { answer = Done 0; state = empty_tables F 1 }
unfolding fresh
fresh_done F low high = yes! _ _ (in_range F low high)

pub fresh_refused : (F : ℕ) → (1 ≤ F → F ≤ 512 → ⊥) → fresh F ≡ record { answer = Limit Frames 1; state = empty_tables 0 0 }
unfolding fresh
fresh_refused F out = no! _ _ (out_of_range F out)

pub fresh_sound : (F : ℕ) → 1 ≤ F → F ≤ 512 → Sound (fresh F).state
fresh_sound F low high = rw (fresh_done F low high) (sound_empty F low high)

pub fresh_unsound : (F : ℕ) → (1 ≤ F → F ≤ 512 → ⊥) → Sound (fresh F).state → ⊥
fresh_unsound F out = rw (fresh_refused F out) zeros_unsound

-- paper 02, M-102: "39 for F"; "For F, the value is 1."
pub fresh_outside : (F : ℕ) → (1 ≤ F → F ≤ 512 → ⊥) → (number (fresh F).answer ≡ 39) × (value (fresh F).answer ≡ 1)
unfolding number value limit_number
fresh_outside F out = rw (fresh_refused F out) (refl, refl)
