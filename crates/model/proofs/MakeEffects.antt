-- What a done ENROL and CREATE do, in the words of their rows in paper 01, and that they do nothing else. Assumes nothing.
use Prim.Native.Nat.{ℕ, ◌+◌, ◌*◌, ◌<◌}
use mathlib.Core.Bool.{true}
use mathlib.Core.List.{List}
use mathlib.Core.Logic.{◌≢◌}
use mathlib.Core.Path.{◌≡◌, refl, ap, ◌∙◌}
use native.Mathlib.Omega.{arith}
use lib.Dec.{eqb}
use lib.ListN.{set, replicate}
use lib.Seq.{get_or-set_same, get_or-set_other}
use Rattle.lists.specs.Choice.{choose}
use Rattle.lists.specs.Lowest.{Lowest}
use Rattle.model.specs.declared.Caller.{Caller}
use Rattle.model.specs.declared.Change.{Change}
use Rattle.model.specs.declared.Guest.{Guest}
use Rattle.model.specs.declared.Operation.TheVariants.{Enrol, Create}
use Rattle.model.specs.declared.Settings.{Settings}
use Rattle.model.specs.declared.Space.{Space}
use Rattle.model.specs.declared.State.{State}
use Rattle.model.specs.Answers.{value}
use Rattle.model.specs.Calls.{new_space, new_guest, enrols, good_caller}
use Rattle.model.specs.Changes.{space_added, applied}
use Rattle.model.specs.Decision.{Decision, after}
use Rattle.model.specs.Frames.{layout, bytes_of}
use Rattle.model.specs.Granted.{Made, Performed}
use Rattle.model.specs.Names.{base_name}
use Rattle.model.specs.Runs.{IsRun}
use Rattle.model.specs.Searches.{data_spaces, free_slot, free_run}
use Rattle.model.specs.Sound.{Live, IsGuest, Sound, HasFrame}
use Rattle.model.specs.Step.{scratch_after}
use Rattle.model.specs.Tables.{no_space, no_guest, space_at, guest_at, guest_place, with_next, with_spaces, with_guests, no_cell, cell_at}
use Rattle.model.proofs.Clearing.{BytesGo, bytes_go}
use Rattle.model.proofs.Effects.{by, Done, all, ok}
use Rattle.model.proofs.Entries.{same_guest}
use Rattle.model.proofs.Runs.{d_has, lowest_run, lowest_slot}
use Rattle.model.proofs.Searches.{named_none}
use Rattle.model.proofs.Sound.{may_enrol_lem}
use Rattle.model.proofs.SpaceBytes.{clear_own}

-- ENROL and CREATE "take the lowest unused space slot and the lowest run of free frames, and fill it with zeros". "Value:
-- identification", the next, "never given twice".
pub record MakeEffect (s : State) (g k n : ℕ) (d : Decision) : Type 0 where
  pub slot : ℕ
  pub slot_below : slot < 32
  pub slot_lowest : Lowest (λ u. (space_at s.spaces u).id ≡ 0) 32 slot
  pub start : ℕ
  pub start_below : start < s.frames
  pub run_lowest : Lowest (IsRun s n) s.frames start
  pub space : space_at (after s d).spaces slot ≡ record { id = s.next; owner = g; name = k; first = start; pages = n }
  pub others : (u : ℕ) → u ≢ slot → space_at (after s d).spaces u ≡ space_at s.spaces u
  pub next : (after s d).next ≡ s.next + 1
  pub value : value d.answer ≡ s.next
  pub blank : (p : ℕ) → p < n → cell_at (after s d).cells (start + p) ≡ no_cell
  pub bytes : BytesGo s d (HasFrame (layout (after s d)) (after s d).spaces slot)
  pub zeros : (m b : List ℕ) → bytes_of (after s d) slot (scratch_after (after s d) d.effect m b) ≡ replicate (n * 4096) 0

pub record EnrolEffect (s : State) (g : ℕ) (x : Settings) (d : Decision) : Type 0 where
  pub made : MakeEffect s g base_name x.pages d
  pub guest : guest_at (after s d).guests g ≡ record { enrolled = true; allowance = x.allowance; share = eqb x.share 1; list = x.list; asf = eqb x.asf 1 }
  pub others : (h : ℕ) → IsGuest h → h ≢ g → guest_at (after s d).guests h ≡ guest_at s.guests h
  pub rest : after s d ≡ with_next (with_spaces (with_guests s (after s d).guests) (after s d).spaces) (after s d).next

pub record CreateEffect (s : State) (g name pages : ℕ) (d : Decision) : Type 0 where
  pub made : MakeEffect s g name pages d
  pub new : (u : ℕ) → u < 32 → Live s.spaces u → (space_at s.spaces u).owner ≡ g → (space_at s.spaces u).name ≢ name
  pub room : data_spaces s.spaces g < (guest_at s.guests g).allowance
  pub rest : after s d ≡ with_next (with_spaces s (after s d).spaces) (after s d).next

-- One law of making serves both.
make_does : (s : State) (hs : List Guest) (g name pages : ℕ) (c : Change) (d : Decision) → Sound s
    → applied s c ≡ space_added (with_guests s hs) (free_slot s.spaces) (new_space s g name pages) → Made s pages c d → MakeEffect s g name pages d
unfolding new_space value scratch_after
make_does s hs g name pages c d ok to m =
    let u = free_slot s.spaces in
    let x : Space = record { id = s.next; owner = g; name = name; first = free_run s pages; pages = pages } in
    let is : space_at (set s.spaces u x) u ≡ x = get_or-set_same s.spaces u x no_space (omega (arith, ok.spaces.len, m.slot)) in
    let there : space_at (applied s c).spaces u ≡ x = ap (λ (y : State). space_at y.spaces u) to ∙ is in
    rw m.is (record {
      slot = u;
      slot_below = m.slot;
      slot_lowest = lowest_slot s.spaces;
      start = free_run s pages;
      start_below = m.run;
      run_lowest = lowest_run s pages;
      space = there;
      others = λ v ne. ap (λ (y : State). space_at y.spaces v) to ∙ get_or-set_other s.spaces u v x no_space ne;
      next = ap (λ (y : State). y.next) to;
      value = refl;
      blank = λ p b. ap (λ (y : State). cell_at y.cells (free_run s pages + p)) to ∙ ok.cells.free (free_run s pages + p) (((lowest_run s pages).found m.run).free p b);
      bytes = bytes_go s _ _ _ refl (d_has (layout (applied s c)) (applied s c).spaces u);
      zeros = λ k b. clear_own (applied s c) u k ∙ ap (λ (y : Space). replicate (y.pages * 4096) 0) there;
    })

module _ (s : State) (m : ℕ) (c : Caller) (n : ℕ) where
  abbrev g : ℕ
  g = c.guest

  enrolling : (x : Settings) → Done s m c n (Enrol x) → IsGuest g
  unfolding good_caller enrols choose
  enrolling x done = (may_enrol_lem s.guests g (all s m c n (Enrol x) done).caller).0

  pub enrol_does : (x : Settings) → Done s m c n (Enrol x) → EnrolEffect s g x (by s m c n (Enrol x))
  unfolding Performed new_guest new_space
  enrol_does x done =
      let k = Enrol x in
      let p = (all s m c n k done).performed in
      let fine = ok s m c n k done in
      let i = enrolling x done in
      let y : Guest = new_guest x in
      let is : (after s (by s m c n k)).guests ≡ set s.guests (guest_place g) y = ap (λ (d : Decision). (after s d).guests) p.is in
      record {
        made = make_does s _ g base_name x.pages _ (by s m c n k) fine refl p;
        guest = ap (λ gs. guest_at gs g) is ∙ get_or-set_same s.guests (guest_place g) y no_guest (omega (arith, fine.guests.len));
        others = λ h j ne. ap (λ gs. guest_at gs h) is ∙ get_or-set_other s.guests (guest_place g) (guest_place h) y no_guest (λ e. ne (same_guest g h i j e));
        rest = rw p.is refl;
      }

  pub create_does : (name pages : ℕ) → Done s m c n (Create name pages) → CreateEffect s g name pages (by s m c n (Create name pages))
  unfolding Performed good_caller enrols choose new_space
  create_does name pages done =
      let k = Create name pages in
      let p = (all s m c n k done).performed in
      let fine = ok s m c n k done in
      record {
        made = make_does s s.guests g name pages _ (by s m c n k) fine refl p.made;
        new = λ u b l o e. named_none s.spaces g name u p.new b l o e;
        room = omega (arith, p.room, fine.guests.allowed g (all s m c n k done).caller);
        rest = rw p.made.is refl;
      }
