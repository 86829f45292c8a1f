-- ENROL and CREATE: a new space stands in a free slot with an identification of which the record knew nothing, and the memory
-- follows it. They differ in the guest's home alone. Assumes nothing.
use Prim.Native.Nat.{ℕ, ◌≤◌, ◌<◌}
use mathlib.Core.Bool.{true, false}
use mathlib.Core.List.{List}
use mathlib.Core.Path.{◌≡◌, refl, sym, ◌∙◌}
use native.Mathlib.Omega.{arith}
use lib.Dec.{eqb}
use lib.ListN.{length}
use borrow.Author.Tests.{eq-eqb, ne_eqb}
use Rattle.lists.specs.Choice.{choose}
use Rattle.lists.proofs.Choice.{true_false, not_so, yes!, no! }
use Rattle.lists.proofs.Maps.{at_set}
use Rattle.model.specs.declared.Change.{Change}
use Rattle.model.specs.declared.Grant.TheVariants.{Nothing}
use Rattle.model.specs.declared.Guest.{Guest}
use Rattle.model.specs.declared.Settings.{Settings}
use Rattle.model.specs.declared.Space.{Space}
use Rattle.model.specs.declared.State.{State}
use Rattle.model.specs.Answers.{value}
use Rattle.model.specs.Calls.{new_space, new_guest, enrolling}
use Rattle.model.specs.Changes.{space_added, applied}
use Rattle.model.specs.Decision.{Decision, after}
use Rattle.model.specs.Granted.{Made, Created}
use Rattle.model.specs.Names.{base_name}
use Rattle.model.specs.Searches.{enrolled, free_slot, free_run, primary_slot}
use Rattle.model.specs.Sound.{Live, IsGuest, Sound}
use Rattle.model.specs.Tables.{no_space, space_at, guest_at, grant_at, entry_at, with_guests}
use Rattle.model.specs.Tokens.{entry_number}
use Rattle.model.proofs.Entries.{nothing_allowed}
use Rattle.model.proofs.NewSpace.{stands}
use Rattle.model.proofs.Runs.{lowest_slot}
use Rattle.model.proofs.Searches.{enrolled_is, primary_lt}
use Rattle.model.proofs.Tokens.{formed}
use Rattle.isolation.specs.History.{Deed, created}
use Rattle.isolation.specs.Recall.{owner_by, home_by, grant_by, token_by, mode_by, load_by}
use Rattle.isolation.proofs.Record.{Memory, told, Remembers, gives_same}

module _ (s : State) (m : Memory) (ok : Sound s) (rem : Remembers s m) where
  -- the law of both: hs are the guests after the call, `home` says where each guest's home is then
  made_told : (hs : List Guest) (g name pages : ℕ) (c : Change) (d : Decision) (home : ℕ → ℕ)
      → applied s c ≡ space_added (with_guests s hs) (free_slot s.spaces) (new_space s g name pages) → Made s pages c d
      → (name ≡ base_name → home g ≡ s.next)
      → ((u : ℕ) → Live s.spaces u → home (space_at s.spaces u).owner ≡ m.home (space_at s.spaces u).owner)
      → Remembers (after s d) (record { owner = λ x. choose (eqb s.next x) g (m.owner x); home = home; grant = m.grant; token = m.token; mode = m.mode; load = m.load })
  unfolding new_space
  made_told hs g name pages c d home to done new_home old_home = rw (done.is, to) (record {
    owners = λ u. at_set (λ y. 1 ≤ y.id → choose (eqb s.next y.id) g (m.owner y.id) ≡ y.owner) s.spaces j x u no_space inside
        (λ _ _. yes! _ _ (eq-eqb s.next _ refl))
        (λ _ l. no! _ _ (ne_eqb s.next _ (λ e. omega (arith, ok.spaces.id_below u l))) ∙ rem.owners u l);
    homes = λ u. at_set (λ y. 1 ≤ y.id → y.name ≡ base_name → home y.owner ≡ y.id) s.spaces j x u no_space inside
        (λ _ _. new_home)
        (λ _ l b. old_home u l ∙ rem.homes u l b);
    grants = λ u h l i. at_set (λ y. 1 ≤ y.id → m.grant y.id h ≡ grant_at s.permits u h) s.spaces j x u no_space inside
        (λ e _. rem.unpermitted s.next h (omega arith) ∙ sym (rw e (none h i)))
        (λ _ old. rem.grants u h old i) l;
    unowned = λ y b. no! _ _ (ne_eqb s.next y (λ e. omega arith)) ∙ rem.unowned y (omega arith);
    unpermitted = λ y h b. rem.unpermitted y h (omega arith);
    tokens = λ h t i z f.
        rem.tokens h t i z f
        ∙ gives_same s.spaces _ (entry_at s.entries h (entry_number t)) _ (λ u r v. stands s.spaces j x ok.spaces.len done.slot free u
        (ok.entries.basis h (entry_number t) u r i (formed t z f).entry v).live);
    modes = rem.modes;
    loads = rem.loads;
  })
    where
      j : ℕ
      j = free_slot s.spaces

      x : Space
      x = record { id = s.next; owner = g; name = name; first = free_run s pages; pages = pages }

      free : (space_at s.spaces j).id ≡ 0
      free = (lowest_slot s.spaces).found done.slot

      inside : j < length s.spaces
      inside = omega (arith, ok.spaces.len, done.slot)

      -- nobody is permitted anything of a free slot
      none : (h : ℕ) → IsGuest h → grant_at s.permits j h ≡ Nothing
      none h i = nothing_allowed _ (not_so _ (λ a. omega (arith, free, (ok.permits.basis j h done.slot i a).live)))

  -- ENROL: no space had that owner
  pub enrol_told : (g : ℕ) (x : Settings) (d : Decision) → (guest_at s.guests g).enrolled ≡ false
      → Made s x.pages (enrolling s g x) d → Remembers (after s d) (told (Deed.enrolled g (value d.answer)) m)
  unfolding new_guest new_space value owner_by home_by grant_by token_by mode_by load_by
  enrol_told g x d out done = rw done.is (rw done.is at
      (made_told _ g base_name x.pages _ d (λ h. choose (eqb g h) s.next (m.home h)) refl done (λ _. yes! _ _ (eq-eqb g g refl))
      (λ u l. no! _ _ (ne_eqb g _ (λ e. true_false (enrolled_is s.guests _ (ok.spaces.owner u l)) (rw (← e) out))))))

  -- CREATE: the name is not BASE, for the caller has a space of that name
  pub create_told : (g name pages : ℕ) (d : Decision) → enrolled s.guests g ≡ true → Created s g name pages d → Remembers (after s d) (told (created g (value d.answer)) m)
  unfolding primary_slot value owner_by home_by grant_by token_by mode_by load_by
  create_told g name pages d on done =
      rw done.made.is (rw done.made.is at
      (made_told s.guests g name pages _ d m.home refl done.made
      (λ q. absurd (omega (arith, primary_lt s.spaces g (ok.guests.primary g on), rw q at done.new))) (λ u l. refl)))
