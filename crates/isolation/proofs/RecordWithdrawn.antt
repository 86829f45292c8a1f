-- DESTROY, ISOLATE and RESET: spaces are withdrawn, and the memory follows. One law, over the sets of slots that the
-- withdrawal is given by, serves the three. Assumes nothing.
use Prim.Native.Nat.{ℕ}
use mathlib.Core.Bool.{Bool, true, false, not}
use mathlib.Core.List.{List}
use mathlib.Core.Logic.{◌≢◌}
use mathlib.Core.Path.{◌≡◌, refl, sym, ap, ◌∙◌}
use native.Mathlib.Decide.{ℕ_discrete}
use lib.Dec.{eqb}
use borrow.Author.Tests.{eqb-true, eq-eqb, ne_eqb}
use Rattle.lists.specs.Choice.{choose, both, either}
use Rattle.lists.proofs.Choice.{yes!, no!, choose_same, both_yes}
use Rattle.model.specs.declared.Entry.{Entry}
use Rattle.model.specs.declared.Grant.TheVariants.{Nothing}
use Rattle.model.specs.declared.Right.{Right}
use Rattle.model.specs.declared.Space.{Space}
use Rattle.model.specs.declared.Standing.{Standing}
use Rattle.model.specs.declared.Standing.TheVariants.{Unused, Valid, Revoked}
use Rattle.model.specs.declared.State.{State}
use Rattle.model.specs.Changes.{revoked_from, revoked, released_all, loses, withdrawn, reset_tables}
use Rattle.model.specs.Decision.{Decision, after}
use Rattle.model.specs.Granted.{Destroyed, Isolated, ResetDone}
use Rattle.model.specs.Searches.{is_owned, is_data, slot_of}
use Rattle.model.specs.Sound.{Live, IsGuest, Sound}
use Rattle.model.specs.Tables.{space_at, entry_at, with_entries}
use Rattle.model.specs.Tokens.{malformed, entry_number, upper_half}
use Rattle.model.proofs.Entries.{released_unused}
use Rattle.model.proofs.Reset.{released_own, released_other}
use Rattle.model.proofs.Searches.{live_of}
use Rattle.model.proofs.Tokens.{formed}
use Rattle.model.proofs.Withdraw.{withdrawn_live, withdrawn_kept, withdrawn_grant, withdrawn_revoked, kept_space}
use Rattle.isolation.specs.History.{destroyed, isolated, reset}
use Rattle.isolation.specs.Recall.{Given, space, unassigned, unless, owner_by, home_by, grant_by, token_by, mode_by, load_by}
use Rattle.isolation.proofs.Record.{Memory, told, standing_gives, entry_gives, Remembers, gives_unused, id_slot}

-- An entry that may be revoked: `cut` tests slots, `lost` the identifications of their spaces. What is not cut stays.
gives_cut : (ss ts : List Space) (lost cut : ℕ → Bool) (e : Entry) (q : ℕ) → ((u : ℕ) (r : Right) → e.standing ≡ Valid u r → lost (space_at ss u).id ≡ cut u)
    → ((u : ℕ) → cut u ≡ false → space_at ts u ≡ space_at ss u) → unless lost (entry_gives ss e q) ≡ entry_gives ts (revoked cut e) q
unfolding entry_gives standing_gives revoked revoked_from unless choose
gives_cut ss ts lost cut e q same stays = under (eqb e.sequence q) (go e.standing same)
  where
    under : (b : Bool) → unless lost (standing_gives ss e.standing) ≡ standing_gives ts (revoked_from cut e.standing)
        → unless lost (choose b (standing_gives ss e.standing) unassigned) ≡ choose b (standing_gives ts (revoked_from cut e.standing)) unassigned
    under true p = p
    under false p = refl

    valid : (u : ℕ) (r : Right) (b : Bool) → cut u ≡ b → choose b Given.withdrawn (space (space_at ss u).id r) ≡ standing_gives ts (choose b Revoked (Valid u r))
    valid u r true c = refl
    valid u r false c = ap (λ (x : Space). space x.id r) (sym (stays u c))

    go : (x : Standing) → ((u : ℕ) (r : Right) → x ≡ Valid u r → lost (space_at ss u).id ≡ cut u) → unless lost (standing_gives ss x) ≡ standing_gives ts (revoked_from cut x)
    go Unused f = refl
    go (Valid u r) f = rw (f u r refl) (valid u r (cut u) refl)
    go Revoked f = refl

-- Booleans that `loses` comes down to
absorbed : (a b : Bool) → either a (both a b) ≡ a
unfolding either both
absorbed true b = refl
absorbed false b = refl

covered : (a b c : Bool) → (a ≡ true → c ≡ true) → either (both a b) (both a c) ≡ a
unfolding either both
covered true true c f = refl
covered true false c f = f refl
covered false b c f = refl

eqb_comm : (a b : ℕ) → eqb a b ≡ eqb b a
eqb_comm a b = go (ℕ_discrete a b)
  where
    go : Dec (a ≡ b) → eqb a b ≡ eqb b a
    go (yes e) = eq-eqb a b e ∙ sym (eq-eqb b a (sym e))
    go (no n) = ne_eqb a b n ∙ sym (ne_eqb b a (λ e. n (sym e)))

module _ (s : State) (m : Memory) (ok : Sound s) (rem : Remembers s m) where
  module _ (gone closed : ℕ → Bool) where
    -- the law: `cut` tests the identifications of closed slots, es are the entries after the call
    withdrawn_told : (es : List Entry) (cut : ℕ → Bool) (token : ℕ → ℕ → Given) → ((u : ℕ) → Live s.spaces u → cut (space_at s.spaces u).id ≡ closed u)
        → ((g t : ℕ) → IsGuest g → t ≢ 0 → malformed t ≡ false → token g t ≡ entry_gives (withdrawn gone closed s).spaces (entry_at es g (entry_number t)) (upper_half t))
        → Remembers (with_entries (withdrawn gone closed s) es) (record { owner = m.owner; home = m.home; grant = λ x g. choose (cut x) Nothing (m.grant x g); token = token; mode = m.mode; load = m.load })
    unfolding withdrawn
    withdrawn_told es cut token same tokens = record {
      owners = λ u l. let w = withdrawn_live s gone closed u l in rw w.2 (rem.owners u w.1);
      homes = λ u l b. let w = withdrawn_live s gone closed u l in rw w.2 (rem.homes u w.1 (rw w.2 at b));
      grants = λ u g l i.
          let w = withdrawn_live s gone closed u l in
          rw (w.2, withdrawn_grant s gone closed u g i, same u w.1, rem.grants u g w.1 i) refl;
      unowned = rem.unowned;
      unpermitted = λ x g b. rw (rem.unpermitted x g b) (choose_same (cut x) Nothing);
      tokens = tokens;
      modes = rem.modes;
      loads = rem.loads;
    }

    -- guest g's tokens, where the call leaves it at the withdrawal
    token_withdrawn : (lost : ℕ → Bool) (g t : ℕ) → IsGuest g → t ≢ 0 → malformed t ≡ false
        → ((u : ℕ) → Live s.spaces u → lost (space_at s.spaces u).id ≡ loses s.spaces gone closed g u)
        → unless lost (m.token g t) ≡ entry_gives (withdrawn gone closed s).spaces (entry_at (withdrawn gone closed s).entries g (entry_number t)) (upper_half t)
    token_withdrawn lost g t i z f same =
        let e = (formed t z f).entry in
        rw (withdrawn_revoked s gone closed g (entry_number t) i e, rem.tokens g t i z f)
        (gives_cut s.spaces _ lost (loses s.spaces gone closed g) (entry_at s.entries g (entry_number t)) (upper_half t)
        (λ u r v. same u (ok.entries.basis g (entry_number t) u r i e v).live)
        (λ u k. withdrawn_kept s gone closed u (kept_space s.spaces gone closed g u k)))

  -- DESTROY: every entry for the space is lost
  pub destroy_told : (g i : ℕ) (d : Decision) → Destroyed s g i d → Remembers (after s d) (told (destroyed g i) m)
  unfolding owner_by home_by grant_by token_by mode_by load_by loses
  destroy_told g i d done =
      let one = eqb (slot_of s.spaces i) in
      rw done.is
      (withdrawn_told one one _ (eqb i) (λ h t. unless (eqb i) (m.token h t)) (λ u l. id_slot s ok i u done.owning.slot l)
      (λ h t j z f. token_withdrawn one one (eqb i) h t j z f (λ u l. id_slot s ok i u done.owning.slot l ∙ sym (absorbed (one u) _))))

  -- ISOLATE: every entry for it but the owner's
  pub isolate_told : (g i : ℕ) (d : Decision) → Isolated s g i d → Remembers (after s d) (told (isolated g i) m)
  unfolding owner_by home_by grant_by token_by mode_by load_by loses either
  isolate_told g i d done =
      let one = eqb (slot_of s.spaces i) in
      rw done.is
      (withdrawn_told (λ v. false) one _ (eqb i) (λ h t. unless (λ x. both (eqb i x) (not (eqb (m.owner x) h))) (m.token h t)) (λ u l. id_slot s ok i u done.owning.slot l)
      (λ h t j z f. token_withdrawn (λ v. false) one _ h t j z f (λ u l. rw (id_slot s ok i u done.owning.slot l, rem.owners u l) refl)))

  -- RESET: the caller's own entries are released; others lose every entry for a space of the caller
  pub reset_told : (g : ℕ) (d : Decision) → IsGuest g → ResetDone s g d → Remembers (after s d) (told (reset g) m)
  unfolding owner_by home_by grant_by token_by mode_by load_by reset_tables loses
  reset_told g d i done =
      rw done.is
      (withdrawn_told gone closed _ (λ x. eqb g (m.owner x)) (λ h t. choose (eqb g h) unassigned (unless (λ x. eqb (m.owner x) g) (m.token h t)))
      (λ u l. rw (rem.owners u l) (eqb_comm g _ ∙ sym (owned u l)))
      (λ h t j z f. tokens h t j z f (ℕ_discrete h g)))
    where
      gone : ℕ → Bool
      gone u = is_data g (space_at s.spaces u)

      closed : ℕ → Bool
      closed u = is_owned g (space_at s.spaces u)

      owned : (u : ℕ) → Live s.spaces u → closed u ≡ eqb (space_at s.spaces u).owner g
      owned u l = both_yes _ (live_of (space_at s.spaces u) l)

      lost : (h u : ℕ) → h ≢ g → Live s.spaces u → eqb (m.owner (space_at s.spaces u).id) g ≡ loses s.spaces gone closed h u
      lost h u n l =
          rw (rem.owners u l)
          (sym (covered (closed u) _ _ (λ c. ap not (ne_eqb _ h (λ e. n (sym e ∙ eqb-true _ g (sym (owned u l) ∙ c))))) ∙ owned u l))

      tokens : (h t : ℕ) → IsGuest h → t ≢ 0 → malformed t ≡ false → Dec (h ≡ g)
          → choose (eqb g h) unassigned (unless (λ x. eqb (m.owner x) g) (m.token h t))
          ≡ entry_gives (withdrawn gone closed s).spaces (entry_at (released_all g (withdrawn gone closed s).entries) h (entry_number t)) (upper_half t)
      tokens h t j z f (yes e) =
          let n = (formed t z f).entry in
          let es = (withdrawn gone closed s).entries in
          rw e
          (yes! _ _ (eq-eqb g g refl)
          ∙ sym (rw (released_own es g (entry_number t) i n) (gives_unused _ _ (upper_half t) (released_unused (entry_at es g (entry_number t))))))
      tokens h t j z f (no n) =
          no! _ _ (ne_eqb g h (λ e. n (sym e)))
          ∙ token_withdrawn gone closed _ h t j z f (λ u l. lost h u n l)
          ∙ sym (ap (λ e. entry_gives (withdrawn gone closed s).spaces e (upper_half t)) (released_other (withdrawn gone closed s).entries g h (entry_number t) n j (formed t z f).entry))
