-- The folds over the record side by side as one memory, what it says of the tables, and what made each recorded call
-- rightful. That calls keep to both is in RecordSet, RecordMade, RecordWithdrawn and RecordKept; what rightful calls ground
-- is in RecordTells. Assumes nothing.
use Prim.Native.Nat.{ℕ, ◌≤◌, ◌<◌}
use mathlib.Core.Bool.{Bool, true, false}
use mathlib.Core.List.{List, [], ◌∷◌}
use mathlib.Core.Logic.{◌≢◌, ◌⊎◌}
use mathlib.Core.Path.{◌≡◌, refl, sym, ap, ◌∙◌}
use native.Mathlib.Decide.{ℕ_discrete}
use lib.Dec.{eqb}
use lib.ListN.{get_or}
use borrow.Author.Tests.{eqb-true, eq-eqb, ne_eqb}
use Rattle.lists.specs.Choice.{choose, both}
use Rattle.lists.proofs.Choice.{not_so, yes!, no!, choose_same, both_left, both_right, both_intro}
use Rattle.model.specs.declared.Caller.{Caller}
use Rattle.model.specs.declared.Entry.{Entry}
use Rattle.model.specs.declared.Grant.{Grant}
use Rattle.model.specs.declared.Grant.TheVariants.{Nothing}
use Rattle.model.specs.declared.Right.{Right}
use Rattle.model.specs.declared.Space.{Space}
use Rattle.model.specs.declared.Standing.{Standing}
use Rattle.model.specs.declared.Standing.TheVariants.{Unused, Valid, Revoked}
use Rattle.model.specs.declared.State.{State}
use Rattle.model.specs.Changes.{allows}
use Rattle.model.specs.Names.{base_name}
use Rattle.model.specs.Searches.{slot_of}
use Rattle.model.specs.Sound.{Live, IsGuest, Sound}
use Rattle.model.specs.Tables.{space_at, cpu_at, cpu_place, grant_at, entry_at}
use Rattle.model.specs.Tokens.{malformed, entry_number, upper_half}
use Rattle.model.proofs.Searches.{slot_found}
use Rattle.isolation.specs.History.{Event, Deed, nothing, enrolled, created, destroyed, permitted, isolated, added, removed, loaded, switched, reset, deed}
use Rattle.isolation.specs.Recall.{Given, space, unassigned, withdrawn, owner_by, owner_in, home_by, home_in, grant_by, grant_in, token_by, token_in, mode_by, mode_in, load_by, load_in}

pub record Memory : Type 0 where
  pub owner : (id : ℕ) → ℕ
  pub home : (guest : ℕ) → ℕ
  pub grant : (id guest : ℕ) → Grant
  pub token : (guest token : ℕ) → Given
  pub mode : Caller → Bool
  pub load : Caller → (register : ℕ) → ℕ

abbrev pub memory : List Event → Memory
memory h = record {
  owner = owner_in h;
  home = home_in h;
  grant = grant_in h;
  token = token_in h;
  mode = mode_in h;
  load = load_in h;
}

-- the memory after one more deed; that of e ∷ h is `told (deed e) (memory h)`
abbrev pub told : Deed → Memory → Memory
told d m = record {
  owner = λ x. owner_by d x (m.owner x);
  home = λ g. home_by d g (m.home g);
  grant = λ x g. grant_by d (m.owner x) x g (m.grant x g);
  token = λ g t. token_by d m.owner g t (m.token g t);
  mode = λ c. mode_by d c (m.mode c);
  load = λ c r. load_by d c r (m.load c r);
}

-- what an entry gives to a token with the upper half q. Entries above L+1 are unused, so L needs no mention.
unfoldable pub standing_gives : List Space → Standing → Given
standing_gives ss Unused = unassigned
standing_gives ss (Valid u r) = space (space_at ss u).id r
standing_gives ss Revoked = withdrawn

unfoldable pub entry_gives : List Space → Entry → (upper : ℕ) → Given
entry_gives ss e q = choose (eqb e.sequence q) (standing_gives ss e.standing) unassigned

-- The memory says what the tables say; and of an identification that was not given yet it knows no owner and no permit.
pub record Remembers (s : State) (m : Memory) : Type 0 where
  pub owners : (u : ℕ) → Live s.spaces u → m.owner (space_at s.spaces u).id ≡ (space_at s.spaces u).owner
  pub homes : (u : ℕ) → Live s.spaces u → (space_at s.spaces u).name ≡ base_name → m.home (space_at s.spaces u).owner ≡ (space_at s.spaces u).id
  pub grants : (u g : ℕ) → Live s.spaces u → IsGuest g → m.grant (space_at s.spaces u).id g ≡ grant_at s.permits u g
  pub unowned : (x : ℕ) → s.next ≤ x → m.owner x ≡ 0
  pub unpermitted : (x g : ℕ) → s.next ≤ x → m.grant x g ≡ Nothing
  pub tokens : (g t : ℕ) → IsGuest g → t ≢ 0 → malformed t ≡ false → m.token g t ≡ entry_gives s.spaces (entry_at s.entries g (entry_number t)) (upper_half t)
  pub modes : (c : Caller) → IsGuest c.guest → m.mode c ≡ (cpu_at s.cpus (cpu_place c)).mode
  pub loads : (c : Caller) (r : ℕ) → IsGuest c.guest → r < 16 → m.load c r ≡ get_or (cpu_at s.cpus (cpu_place c)).registers r 0

-- What the memory says in favour of a deed at the time: an identification given is above all that have an owner; a PERMIT is
-- by the owner; an ADD is by the owner or by a guest that is permitted as much. An owner is not 0.
pub record NewTo (m : Memory) (g x : ℕ) : Type 0 where
  pub guest : g ≢ 0
  pub above : (y : ℕ) → x ≤ y → m.owner y ≡ 0

abbrev pub Rightful : Memory → Deed → Type 0
Rightful m nothing = Unit {0}
Rightful m (enrolled g x) = NewTo m g x
Rightful m (created g x) = NewTo m g x
Rightful m (destroyed g x) = Unit {0}
Rightful m (permitted g x h r) = (m.owner x ≢ 0) × (m.owner x ≡ g)
Rightful m (isolated g x) = Unit {0}
Rightful m (added g x r t) = (m.owner x ≢ 0) × ((m.owner x ≡ g) ⊎ (allows (m.grant x g) r ≡ true))
Rightful m (removed g t) = Unit {0}
Rightful m (loaded c r v) = Unit {0}
Rightful m (switched c k) = Unit {0}
Rightful m (reset g) = Unit {0}

-- every recorded call was rightful
abbrev pub Proper : List Event → Type 0
Proper [] = Unit {0}
Proper (e ∷ h) = Rightful (memory h) (deed e) × Proper h

pub record Recorded (s : State) (h : List Event) : Type 0 where
  pub remembers : Remembers s (memory h)
  pub proper : Proper h

-- What an entry gives: nothing where it is unused or has another sequence, else what its standing gives.
pub gives_unused : (ss : List Space) (e : Entry) (q : ℕ) → e.standing ≡ Unused → entry_gives ss e q ≡ unassigned
unfolding entry_gives standing_gives
gives_unused ss e q u = rw u (choose_same (eqb e.sequence q) unassigned)

pub gives_other : (ss : List Space) (e : Entry) (q : ℕ) → e.sequence ≢ q → entry_gives ss e q ≡ unassigned
unfolding entry_gives
gives_other ss e q n = no! _ _ (ne_eqb e.sequence q n)

pub gives_standing : (ss : List Space) (e : Entry) (q : ℕ) → e.sequence ≡ q → entry_gives ss e q ≡ standing_gives ss e.standing
unfolding entry_gives
gives_standing ss e q n = yes! _ _ (eq-eqb e.sequence q n)

-- it depends on the slot of a valid entry alone
pub gives_same : (ss ts : List Space) (e : Entry) (q : ℕ) → ((u : ℕ) (r : Right) → e.standing ≡ Valid u r → space_at ts u ≡ space_at ss u) → entry_gives ss e q ≡ entry_gives ts e q
unfolding entry_gives standing_gives
gives_same ss ts e q same = ap (λ x. choose (eqb e.sequence q) x unassigned) (go e.standing same)
  where
    go : (x : Standing) → ((u : ℕ) (r : Right) → x ≡ Valid u r → space_at ts u ≡ space_at ss u) → standing_gives ss x ≡ standing_gives ts x
    go Unused f = refl
    go (Valid u r) f = ap (λ (y : Space). space y.id r) (sym (f u r refl))
    go Revoked f = refl

-- Two pairs of numbers tested at once.
pub same_pair : (a b c d : ℕ) → a ≡ b → c ≡ d → both (eqb a b) (eqb c d) ≡ true
same_pair a b c d p q = both_intro _ _ (eq-eqb a b p) (eq-eqb c d q)

pub pair_same : (a b c d : ℕ) → both (eqb a b) (eqb c d) ≡ true → (a ≡ b) × (c ≡ d)
pair_same a b c d e = (eqb-true a b (both_left _ _ e), eqb-true c d (both_right (eqb a b) _ e))

pub other_pair : (a b c d : ℕ) → (a ≡ b → c ≡ d → ⊥) → both (eqb a b) (eqb c d) ≡ false
other_pair a b c d n = not_so _ (λ e. let p = pair_same a b c d e in n p.0 p.1)

-- An identification names one slot: to ask for it is to ask for the slot.
pub id_slot : (s : State) → Sound s → (i v : ℕ) → slot_of s.spaces i < 32 → Live s.spaces v → eqb i (space_at s.spaces v).id ≡ eqb (slot_of s.spaces i) v
id_slot s ok i v b l = go (ℕ_discrete (slot_of s.spaces i) v) (slot_found s.spaces i b)
  where
    u : ℕ
    u = slot_of s.spaces i

    go : Dec (u ≡ v) → Live s.spaces u × ((space_at s.spaces u).id ≡ i) → eqb i (space_at s.spaces v).id ≡ eqb u v
    go (yes e) f = eq-eqb i _ (sym f.1 ∙ ap (λ w. (space_at s.spaces w).id) e) ∙ sym (eq-eqb u v e)
    go (no n) f = ne_eqb i _ (λ e. n (ok.spaces.id_own u v f.0 l (f.1 ∙ e))) ∙ sym (ne_eqb u v n)
