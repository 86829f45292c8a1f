-- What a done DESTROY, ISOLATE and RESET do, in the words of their rows in paper 01, and that they do nothing else. Assumes nothing.
use Prim.Native.Nat.{ℕ, ◌<◌}
use mathlib.Core.Bool.{Bool, true, false}
use mathlib.Core.List.{List}
use mathlib.Core.Logic.{◌≢◌, inl, inr, ⊎_elim}
use mathlib.Core.Path.{◌≡◌, refl, sym, ap, ◌∙◌}
use lib.Dec.{eqb}
use borrow.Author.Tests.{eq-eqb, eqb-true}
use Rattle.lists.specs.Decides.{Decides}
use Rattle.lists.proofs.Choice.{true_false, not_so, yes!, no! }
use Rattle.lists.proofs.Decides.{d_eq, d_both, d_either, d_not, d_map}
use Rattle.model.specs.declared.Caller.{Caller}
use Rattle.model.specs.declared.Entry.{Entry}
use Rattle.model.specs.declared.Grant.TheVariants.{Nothing}
use Rattle.model.specs.declared.Operation.TheVariants.{Destroy, Isolate, Reset}
use Rattle.model.specs.declared.Permit.{Permit}
use Rattle.model.specs.declared.Right.{Right}
use Rattle.model.specs.declared.Space.{Space}
use Rattle.model.specs.declared.Standing.TheVariants.{Unused, Valid, Revoked}
use Rattle.model.specs.declared.State.{State}
use Rattle.model.specs.Calls.{enrols}
use Rattle.model.specs.Changes.{released, revoked_from, revoked, loses, withdrawn, reset_tables, freed}
use Rattle.model.specs.Decision.{Decision, after}
use Rattle.model.specs.Frames.{layout, frame_of}
use Rattle.model.specs.Granted.{Performed}
use Rattle.model.specs.Names.{base_name}
use Rattle.model.specs.Searches.{is_owned, is_data, slot_of}
use Rattle.model.specs.Sound.{Live, IsGuest, IsEntry, Sound, HasFrame}
use Rattle.model.specs.Step.{scratch_after}
use Rattle.model.specs.Tables.{no_space, space_at, grant_at, entry_at, with_spaces, with_permits, with_entries, with_cells, no_cell, cell_at}
use Rattle.model.specs.declared.Cell.{Cell}
use Rattle.model.proofs.Clearing.{BytesGo, bytes_go}
use Rattle.model.proofs.Effects.{IsSpace, is_space_lem, by, Done, all, ok, guest}
use Rattle.model.proofs.Entries.{released_unused}
use Rattle.model.proofs.Reset.{standing_stays, released_revoked, released_own, released_other}
use Rattle.model.proofs.Searches.{d_live, live_slot}
use Rattle.model.proofs.Withdraw.{withdrawn_gone, withdrawn_kept, withdrawn_live, withdrawn_frame, withdrawn_grant, withdrawn_revoked, withdrawn_cell, d_freed, none_freed}

-- the slots of which G holds are empty, and every other stands as it stood
pub record SpacesGo (before after : List Space) (G : ℕ → Type 0) : Type 0 where
  pub gone : (u : ℕ) → G u → space_at after u ≡ no_space
  pub kept : (u : ℕ) → (G u → ⊥) → space_at after u ≡ space_at before u

-- no permit is left for the slots of which C holds, and those for every other stand as they stood
pub record PermitsGo (before after : List Permit) (C : ℕ → Type 0) : Type 0 where
  pub gone : (u h : ℕ) → IsGuest h → C u → grant_at after u h ≡ Nothing
  pub kept : (u h : ℕ) → IsGuest h → (C u → ⊥) → grant_at after u h ≡ grant_at before u h

-- the cells of the frames of which G holds have key 0, mark off, and every other stands as it stood
pub record CellsGo (before after : List Cell) (G : ℕ → Type 0) : Type 0 where
  pub gone : (f : ℕ) → G f → cell_at after f ≡ no_cell
  pub kept : (f : ℕ) → (G f → ⊥) → cell_at after f ≡ cell_at before f

-- x becomes y: it is revoked where it was valid for a slot of which L holds, and else stays
pub record Withdrawn (L : ℕ → Type 0) (x y : Entry) : Type 0 where
  pub lost : (u : ℕ) (r : Right) → x.standing ≡ Valid u r → L u → y ≡ record { standing = Revoked; sequence = x.sequence }
  pub kept : ((u : ℕ) (r : Right) → x.standing ≡ Valid u r → L u → ⊥) → y ≡ x

-- guests, registers, modes, access keys and the next identification stay
abbrev pub RestStays : (before after : State) → Type 0
RestStays s t = t ≡ with_cells (with_entries (with_permits (with_spaces s t.spaces) t.permits) t.entries) t.cells

-- DESTROY: "Every valid entry for it, in every list, becomes revoked. Permits vanish; frames are free for use again." Paper 02,
-- M-101: "destroying fills the frames with zeros as well".
pub record DestroyEffect (s : State) (g i : ℕ) (d : Decision) : Type 0 where
  pub slot : ℕ
  pub space : IsSpace s i slot
  pub owner : (space_at s.spaces slot).owner ≡ g
  pub not_primary : (space_at s.spaces slot).name ≢ base_name
  pub spaces : SpacesGo s.spaces (after s d).spaces (λ u. u ≡ slot)
  pub frames : (u p q : ℕ) → Live (after s d).spaces u → p < (space_at (after s d).spaces u).pages → q < (space_at s.spaces slot).pages → frame_of (layout (after s d)) u p ≢ frame_of (layout s) slot q
  pub permits : PermitsGo s.permits (after s d).permits (λ u. u ≡ slot)
  pub entries : (h n : ℕ) → IsGuest h → IsEntry n → Withdrawn (λ u. u ≡ slot) (entry_at s.entries h n) (entry_at (after s d).entries h n)
  pub cells : CellsGo s.cells (after s d).cells (HasFrame (layout s) s.spaces slot)
  pub bytes : BytesGo s d (HasFrame (layout s) s.spaces slot)
  pub rest : RestStays s (after s d)

-- ISOLATE: "All permits for it go; other guests' valid entries for it become revoked, the owner's stay."
pub record IsolateEffect (s : State) (g i : ℕ) (d : Decision) : Type 0 where
  pub slot : ℕ
  pub space : IsSpace s i slot
  pub owner : (space_at s.spaces slot).owner ≡ g
  pub spaces : SpacesGo s.spaces (after s d).spaces (λ u. ⊥)
  pub permits : PermitsGo s.permits (after s d).permits (λ u. u ≡ slot)
  pub entries : (h n : ℕ) → IsGuest h → IsEntry n → Withdrawn (λ u. (u ≡ slot) × (h ≢ g)) (entry_at s.entries h n) (entry_at (after s d).entries h n)
  pub cells : (after s d).cells ≡ s.cells
  pub bytes : (m b : List ℕ) → scratch_after (after s d) d.effect m b ≡ m
  pub rest : RestStays s (after s d)

-- RESET: "all the caller's entries become unused, its data spaces are destroyed, its primary is isolated. Primary bytes,
-- registers and mode stay"; paper 02, M-101: "also in RESET"
pub record Owned (s : State) (g u : ℕ) : Type 0 where
  pub live : Live s.spaces u
  pub owner : (space_at s.spaces u).owner ≡ g

abbrev pub OwnedData : State → (guest slot : ℕ) → Type 0
OwnedData s g u = Owned s g u × ((space_at s.spaces u).name ≢ base_name)

-- the frame f is one of a data space of guest g
abbrev pub DataFrame : State → (guest frame : ℕ) → Type 0
DataFrame s g f = (u : ℕ) × (OwnedData s g u × HasFrame (layout s) s.spaces u f)

pub record ResetEffect (s : State) (g : ℕ) (d : Decision) : Type 0 where
  pub unused : (n : ℕ) → IsEntry n → (entry_at (after s d).entries g n).standing ≡ Unused
  pub released : (n : ℕ) → IsEntry n → entry_at (after s d).entries g n ≡ released (entry_at s.entries g n)
  pub spaces : SpacesGo s.spaces (after s d).spaces (OwnedData s g)
  pub permits : PermitsGo s.permits (after s d).permits (Owned s g)
  pub entries : (h n : ℕ) → h ≢ g → IsGuest h → IsEntry n → Withdrawn (Owned s g) (entry_at s.entries h n) (entry_at (after s d).entries h n)
  pub cells : CellsGo s.cells (after s d).cells (DataFrame s g)
  pub bytes : BytesGo s d (DataFrame s g)
  pub rest : RestStays s (after s d)

-- One law of withdrawing serves all three.
module _ (s : State) (gone closed : ℕ → Bool) where
  spaces_go : (G : ℕ → Type 0) → ((u : ℕ) → Decides (gone u) (G u)) → SpacesGo s.spaces (withdrawn gone closed s).spaces G
  spaces_go G d = record {
    gone = λ u y. withdrawn_gone s gone closed u ((d u).of y);
    kept = λ u n. withdrawn_kept s gone closed u (not_so (gone u) (λ e. n ((d u).to e)));
  }

  cells_go : (G : ℕ → Type 0) → ((f : ℕ) → Decides (freed (layout s) s.spaces gone f) (G f)) → CellsGo s.cells (withdrawn gone closed s).cells G
  cells_go G d = record {
    gone = λ f y. withdrawn_cell s gone closed f ∙ yes! _ _ ((d f).of y);
    kept = λ f n. withdrawn_cell s gone closed f ∙ no! _ _ (not_so _ (λ e. n ((d f).to e)));
  }

  permits_go : (C : ℕ → Type 0) → ((u : ℕ) → Decides (closed u) (C u)) → PermitsGo s.permits (withdrawn gone closed s).permits C
  permits_go C d = record {
    gone = λ u h i y. withdrawn_grant s gone closed u h i ∙ yes! _ _ ((d u).of y);
    kept = λ u h i n. withdrawn_grant s gone closed u h i ∙ no! _ _ (not_so (closed u) (λ e. n ((d u).to e)));
  }

  entry_withdrawn : (L : ℕ → Type 0) (h n : ℕ) → ((u : ℕ) → Decides (loses s.spaces gone closed h u) (L u)) → IsGuest h → IsEntry n
      → Withdrawn L (entry_at s.entries h n) (entry_at (withdrawn gone closed s).entries h n)
  unfolding revoked revoked_from
  entry_withdrawn L h n d i j =
      let x = entry_at s.entries h n in
      let is = withdrawn_revoked s gone closed h n i j in
      record {
        lost = λ u r v l. is ∙ ap (λ y. record { standing = y; sequence = x.sequence }) (ap (revoked_from _) v ∙ yes! Revoked (Valid u r) ((d u).of l));
        kept = λ f. is ∙ ap (λ y. record { standing = y; sequence = x.sequence }) (standing_stays (loses s.spaces gone closed h) x.standing (λ u r v. not_so _ (λ e. f u r v ((d u).to e))));
      }

  -- no live space has a frame of one that is gone
  frames_go : Sound s → (v u p q : ℕ) → gone v ≡ true → Live s.spaces v → Live (withdrawn gone closed s).spaces u → p < (space_at (withdrawn gone closed s).spaces u).pages
      → q < (space_at s.spaces v).pages → frame_of (layout (withdrawn gone closed s)) u p ≢ frame_of (layout s) v q
  frames_go ok v u p q y l k a b e =
      let w = withdrawn_live s gone closed u k in
      let same = (ok.spaces.apart u v p q w.1 l (rw w.2 at a) b (sym (withdrawn_frame s gone closed u p w.0) ∙ e)).0 in
      true_false y (ap gone (sym same) ∙ w.0)

  rest_stays : RestStays s (withdrawn gone closed s)
  unfolding withdrawn
  rest_stays = refl

d_same : (u v : ℕ) → Decides (eqb u v) (v ≡ u)
d_same u v = d_map sym sym (d_eq u v)

d_never : Decides false ⊥
d_never = record { to = λ e. true_false e refl; of = λ z. absurd z }

d_owned : (s : State) (g u : ℕ) → Decides (is_owned g (space_at s.spaces u)) (Owned s g u)
d_owned s g u =
    d_map (λ h. record { live = h.0; owner = h.1 }) (λ o. (o.live, o.owner)) (d_both (d_live (space_at s.spaces u)) (d_eq (space_at s.spaces u).owner g))

module _ (s : State) (m : ℕ) (c : Caller) (n : ℕ) where
  abbrev g : ℕ
  g = c.guest

  pub destroy_does : (i : ℕ) → Done s m c n (Destroy i) → DestroyEffect s g i (by s m c n (Destroy i))
  unfolding Performed loses
  destroy_does i done =
      let p = (all s m c n (Destroy i) done).performed in
      let u = slot_of s.spaces i in
      let space = is_space_lem s i p.owning.slot in
      let d_goes : (f : ℕ) → Decides (freed (layout s) s.spaces (eqb u) f) (HasFrame (layout s) s.spaces u f) = λ f.
      d_map (λ (v, b, (e, h)). rw (eqb-true u v e) h) (λ h. (u, p.owning.slot, (eq-eqb u u refl, h))) (d_freed (layout s) s.spaces (eqb u) f) in
      rw p.is (record {
        slot = u;
        space = space;
        owner = p.owning.owner;
        not_primary = p.not_primary;
        spaces = spaces_go s (eqb u) (eqb u) (λ v. v ≡ u) (d_same u);
        frames = λ v a b. frames_go s (eqb u) (eqb u) (ok s m c n (Destroy i) done) u v a b (eq-eqb u u refl) space.live;
        permits = permits_go s (eqb u) (eqb u) (λ v. v ≡ u) (d_same u);
        entries = λ h k. entry_withdrawn s (eqb u) (eqb u) (λ v. v ≡ u) h k (λ v.
            d_map (⊎_elim (λ e. e) (λ e. e.0)) (λ e. inl e) (d_either (d_same u v) (d_both (d_same u v) (d_not (d_eq (space_at s.spaces v).owner h)))));
        cells = cells_go s (eqb u) (eqb u) _ d_goes;
        bytes = bytes_go s _ _ _ refl d_goes;
        rest = rest_stays s (eqb u) (eqb u);
      })

  pub isolate_does : (i : ℕ) → Done s m c n (Isolate i) → IsolateEffect s g i (by s m c n (Isolate i))
  unfolding Performed loses withdrawn scratch_after
  isolate_does i done =
      let p = (all s m c n (Isolate i) done).performed in
      let u = slot_of s.spaces i in
      let keep : ℕ → Bool = λ v. false in
      let owner : (v : ℕ) → v ≡ u → (space_at s.spaces v).owner ≡ g = λ v e. ap (λ w. (space_at s.spaces w).owner) e ∙ p.owning.owner in
      rw p.is (record {
        slot = u;
        space = is_space_lem s i p.owning.slot;
        owner = p.owning.owner;
        spaces = spaces_go s keep (eqb u) (λ v. ⊥) (λ v. d_never);
        permits = permits_go s keep (eqb u) (λ v. v ≡ u) (d_same u);
        entries = λ h k. entry_withdrawn s keep (eqb u) (λ v. (v ≡ u) × (h ≢ g)) h k (λ v.
            d_map (⊎_elim (λ z. absurd z) (λ e. (e.0, λ q. e.1 (owner v e.0 ∙ sym q)))) (λ e. inr (e.0, λ q. e.1 (sym q ∙ owner v e.0)))
            (d_either d_never (d_both (d_same u v) (d_not (d_eq (space_at s.spaces v).owner h)))));
        cells = none_freed (layout s) s.spaces s.cells;
        bytes = λ k b. refl;
        rest = rest_stays s keep (eqb u);
      })

  pub reset_does : Done s m c n Reset → ResetEffect s g (by s m c n Reset)
  unfolding Performed loses reset_tables enrols withdrawn
  reset_does done =
      let p = (all s m c n Reset done).performed in
      let i = guest s m c n Reset refl done in
      let gone : ℕ → Bool = λ u. is_data g (space_at s.spaces u) in
      let closed : ℕ → Bool = λ u. is_owned g (space_at s.spaces u) in
      let es = (withdrawn gone closed s).entries in
      let d_data : (u : ℕ) → Decides (gone u) (OwnedData s g u) = λ u. d_both (d_owned s g u) (d_not (d_eq _ base_name)) in
      let d_goes : (f : ℕ) → Decides (freed (layout s) s.spaces gone f) (DataFrame s g f) = λ f.
      d_map (λ (u, b, (e, h)). (u, ((d_data u).to e, h))) (λ (u, (o, h)). (u, live_slot s.spaces u 32 (ok s m c n Reset done).spaces.len o.0.live, ((d_data u).of o, h)))
      (d_freed (layout s) s.spaces gone f) in
      rw p.is (record {
        unused = λ k j. ap (λ (x : Entry). x.standing) (released_own es g k i j) ∙ released_unused (entry_at es g k);
        released = λ k j. released_own es g k i j ∙ ap released (withdrawn_revoked s gone closed g k i j) ∙ released_revoked _ (entry_at s.entries g k);
        spaces = spaces_go s gone closed _ d_data;
        permits = permits_go s gone closed _ (d_owned s g);
        entries = λ h k ne a j. rw (released_other es g h k ne a j) (entry_withdrawn s gone closed (Owned s g) h k (λ u.
            d_map (⊎_elim (λ e. e.0) (λ e. e.0)) (λ o. inr (o, λ q. ne (sym q ∙ o.owner)))
            (d_either (d_data u) (d_both (d_owned s g u) (d_not (d_eq (space_at s.spaces u).owner h))))) a j);
        cells = cells_go s gone closed _ d_goes;
        bytes = bytes_go s _ _ _ refl d_goes;
        rest = refl;
      })
