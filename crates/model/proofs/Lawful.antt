-- Every call keeps to what is said of bytes in specs/Lawful. Assumes nothing.
use Rattle.model.specs.Runs.{IsRun}
use native.Mathlib.Omega.{arith}
use Prim.Native.Nat.{ℕ, ◌+◌}
use mathlib.Core.Bool.{Bool, true, false}
use mathlib.Core.Logic.{◌≢◌, ◌⊎◌, inl, inr, ⊎_elim}
use mathlib.Core.Path.{◌≡◌, refl, ap, ◌∙◌, sym}
use native.Mathlib.Decide.{ℕ_discrete}
use lib.Dec.{eqb}
use lib.ListN.{length, set}
use lib.Seq.{get_or-set_same, get_or-set_other}
use Rattle.lists.specs.Choice.{choose}
use Rattle.lists.proofs.Choice.{true_false, not_so, true_or_false}
use Rattle.model.specs.declared.Call.{Call}
use Rattle.model.specs.declared.Caller.{Caller}
use Rattle.model.specs.declared.Change.{Change}
use Rattle.model.specs.declared.Operation.{Operation}
use Rattle.model.specs.declared.Operation.TheVariants.{Enrol, Create, Destroy, Permit, Isolate, Query, Add, Remove, Load, Mode, Fetch, Store, Reset, Key, Block}
use Rattle.model.specs.declared.Space.{Space}
use Rattle.model.specs.declared.State.{State}
use Rattle.model.specs.Calls.{new_space, enrols, good_caller, target, decide}
use Rattle.model.specs.Changes.{freed, withdrawn, reset_tables, applied}
use Rattle.model.specs.Decision.{Decision, after, Effect, none, clear, fetch, store, refuse, accept}
use Rattle.model.specs.Frames.{layout, frame_of, has_frame}
use Rattle.model.specs.Granted.{Made, Accessed, Performed, Granted}
use Rattle.model.specs.Lawful.{SameSpace, Inside, cleared, Spares, Covers, EffectInside, Lawful}
use Rattle.model.specs.Names.{base_name}
use Rattle.model.specs.Searches.{enrolled, is_owned, is_data, slot_of, free_slot, free_run}
use Rattle.model.specs.Sound.{Live, Sound, HasFrame, Free}
use Rattle.model.specs.Step.{Machine, Ready, Issue, decision}
use Rattle.model.specs.Tables.{no_space, space_at}
use Rattle.model.specs.Verdict.{row, Verdict, refused, granted}
use Rattle.model.proofs.Addresses.{page_live, covers_own}
use Rattle.model.proofs.Reached.{reached_live}
use Rattle.model.proofs.Runs.{d_has, lowest_run, lowest_slot}
use Rattle.model.proofs.Searches.{live_slot}
use Rattle.model.proofs.Verdict.{verdict}
use Rattle.model.proofs.Withdraw.{d_freed, none_vacated, withdrawn_kept, withdrawn_live, withdrawn_frame}

same_space : (s : State) (u : ℕ) → Live s.spaces u → SameSpace s s u
same_space s u l = record { live = l; space = refl; frames = λ p. refl }

-- where nothing is cleared and the spaces are as before
module _ (s t : State) (fs : ℕ → Bool) (clean : (f : ℕ) → fs f ≡ false) (same : t.spaces ≡ s.spaces) where
  stays : (u : ℕ) → Live s.spaces u → SameSpace s t u
  stays u l = record { live = l; space = ap (λ x. space_at x u) same; frames = λ p. ap (λ x. frame_of x u p) same }

  stays_spared : (u : ℕ) → Live t.spaces u → (SameSpace s t u × Spares t fs u) ⊎ ((Live s.spaces u → ⊥) × Covers t fs u)
  stays_spared u l = inl (stays u (rw same at l), λ p _. clean (frame_of (layout t) u p))

lawful_still : (s : State) (n : ℕ) (d : Decision) → (after s d).spaces ≡ s.spaces → (after s d).frames ≡ s.frames → d.effect ≡ none → Lawful s n d
lawful_still s n d e f still =
    let clean : (k : ℕ) → cleared d.effect k ≡ false = λ k. ap (λ x. cleared x k) still in
    record {
      frames = f;
      kept = stays_spared s (after s d) (cleared d.effect) clean e;
      left = λ u l. inl (stays s (after s d) (cleared d.effect) clean e u l);
      idle = λ k _ _. clean k;
      inside = rw still tt;
    }

-- a made space is cleared, every other live slot is as before
module _ (s : State) (c : Change) (g name pages n : ℕ) (d : Decision) (ok : Sound s) (same : (applied s c).spaces ≡ set s.spaces (free_slot s.spaces) (new_space s g name pages))
    (head : (applied s c).frames ≡ s.frames) (m : Made s pages c d) where
  abbrev slot : ℕ
  slot = free_slot s.spaces

  abbrev new : Space
  new = new_space s g name pages

  made_other : (u : ℕ) → u ≢ slot → space_at (applied s c).spaces u ≡ space_at s.spaces u
  made_other u ne = ap (λ x. space_at x u) same ∙ get_or-set_other s.spaces slot u new no_space ne

  made_new : space_at (applied s c).spaces slot ≡ new
  made_new = ap (λ x. space_at x slot) same ∙ get_or-set_same s.spaces slot new no_space (rw ok.spaces.len m.slot)

  made_frame : (u p : ℕ) → u ≢ slot → frame_of (layout (applied s c)) u p ≡ frame_of (layout s) u p
  unfolding frame_of
  made_frame u p ne = ap (λ (x : Space). x.first + p) (made_other u ne)

  abbrev t : State
  t = applied s c

  -- the frames of the new space, which are the run that was free
  abbrev frames : (frame : ℕ) → Bool
  frames = has_frame (layout t) t.spaces slot

  run : IsRun s pages (free_run s pages)
  run = (lowest_run s pages).found m.run

  was_free : (f : ℕ) → HasFrame (layout t) t.spaces slot f → Free (layout s) s.spaces f
  unfolding frame_of new_space
  was_free f (p, b, e) =
      rw (← e, ap (λ (x : Space). x.first) made_new) (run.free p (rw (ap (λ (x : Space). x.pages) made_new) at b))

  same_made : (u : ℕ) → Live s.spaces u → u ≢ slot → SameSpace s t u
  same_made u l ne = record { live = l; space = made_other u ne; frames = λ p. made_frame u p ne }

  -- a slot that was live is another
  other : (u : ℕ) → Live s.spaces u → u ≢ slot
  other u l e = omega (arith, (lowest_slot s.spaces).found m.slot, ap (λ w. (space_at s.spaces w).id) e)

  spared : (u : ℕ) → Live s.spaces u → Spares t frames u
  spared u l p b =
      not_so _ (λ y.
      was_free _ ((d_has (layout t) t.spaces slot _).to y) u (live_slot s.spaces u 32 ok.spaces.len l) l
      (p, rw (made_other u (other u l)) at b, sym (made_frame u p (other u l))))

  lawful_made : Lawful s n d
  unfolding new_space
  lawful_made =
      rw m.is (record {
        frames = head;
        kept = λ u l. go u l (ℕ_discrete u slot);
        left = λ u l. inl (same_made u l (other u l));
        idle = λ f _ free. not_so _ (λ y. free slot m.slot (rw made_new ok.head.next_low) ((d_has (layout t) t.spaces slot f).to y));
        inside = tt;
      })
    where
      go : (u : ℕ) → Live t.spaces u → Dec (u ≡ slot) → (SameSpace s t u × Spares t frames u) ⊎ ((Live s.spaces u → ⊥) × Covers t frames u)
      go u l (yes e) = inr ((λ was. other u was e), rw e (covers_own t slot))
      go u l (no e) = let before : Live s.spaces u = rw (made_other u e) at l in inl (same_made u before e, spared u before)

-- what withdrawing leaves live is as before, and of what it does not leave all frames are cleared
module _ (s : State) (c : Change) (gone closed : ℕ → Bool) (n : ℕ) (ok : Sound s) (same : (applied s c).spaces ≡ (withdrawn gone closed s).spaces) (head : (applied s c).frames ≡ s.frames) where
  abbrev going : (frame : ℕ) → Bool
  going = freed (layout s) s.spaces gone

  withdrawn_stays : (u : ℕ) → Live s.spaces u → gone u ≡ false → SameSpace s (applied s c) u
  withdrawn_stays u l k = record {
    live = l;
    space = ap (λ x. space_at x u) same ∙ withdrawn_kept s gone closed u k;
    frames = λ p. ap (λ x. frame_of x u p) same ∙ withdrawn_frame s gone closed u p k;
  }

  -- a frame of a space that stays is none of one that goes
  stays_apart : (u : ℕ) → Live s.spaces u → gone u ≡ false → Spares (applied s c) going u
  stays_apart u l k p b =
      let is = withdrawn_stays u l k in
      not_so _ (λ y.
      let (v, _, (e, (q, h, f))) = (d_freed (layout s) s.spaces gone _).to y in
      true_false e (ap gone (sym (ok.spaces.apart u v p q l (page_live s ok v q h) (rw is.space at b) h (sym (is.frames p) ∙ sym f)).0) ∙ k))

  lawful_withdrawn : (v : ℕ) → Lawful s n (accept v c (clear going))
  lawful_withdrawn v = record {
    frames = head;
    kept = λ u l. let w = withdrawn_live s gone closed u (rw same at l) in inl (withdrawn_stays u w.1 w.0, stays_apart u w.1 w.0);
    left = λ u l. ⊎_elim (λ y. inr ((λ k. true_false y (withdrawn_live s gone closed u (rw same at k)).0), gone_covered u l y)) (λ k. inl (withdrawn_stays u l k)) (true_or_false (gone u));
    idle = λ f free _. not_so _ (λ y.
        let (u, b, (_, (p, h, e))) = (d_freed (layout s) s.spaces gone f).to y in
        free u b (page_live s ok u p h) (p, h, e));
    inside = tt;
  }
    where
      gone_covered : (u : ℕ) → Live s.spaces u → gone u ≡ true → Covers s going u
      gone_covered u l y p b = (d_freed (layout s) s.spaces gone _).of (u, live_slot s.spaces u 32 ok.spaces.len l, (y, (p, b, refl)))

-- a fetch or store stays inside the space that it reached
lawful_access : (s : State) (c : Caller) (r a n : ℕ) (storing : Bool) (f : ℕ → Effect) (d : Decision) → Sound s → enrolled s.guests c.guest ≡ true
    → ((u : ℕ) → Inside s u a n → EffectInside s n (f u)) → ((u k : ℕ) → cleared (f u) k ≡ false) → Accessed s c r a n storing f d → Lawful s n d
unfolding target
lawful_access s c r a n storing f d ok en within clean x =
    rw x.is (record {
      frames = refl;
      kept = stays_spared s s (cleared (f x.slot)) (clean x.slot) refl;
      left = λ u l. inl (same_space s u l);
      idle = λ k _ _. clean x.slot k;
      inside = within x.slot (record { live = reached_live s ok c.guest _ x.slot x.right en x.reached; fits = x.inside });
    })

lawful_performed : (s : State) (c : Caller) (k : Operation) (n : ℕ) (d : Decision) → Sound s → good_caller s c k ≡ true → Performed s c k n d → Lawful s n d
unfolding Performed good_caller enrols choose withdrawn reset_tables
lawful_performed s c (Enrol x) n d ok en p = lawful_made s _ c.guest base_name x.pages n d ok refl refl p
lawful_performed s c (Create name pages) n d ok en p = lawful_made s _ c.guest name pages n d ok refl refl p.made
lawful_performed s c (Destroy id) n d ok en p = rw p.is (lawful_withdrawn s _ (eqb (slot_of s.spaces id)) (eqb (slot_of s.spaces id)) n ok refl refl 0)
lawful_performed s c (Permit id guest right) n d ok en p = rw p.is (lawful_still s n _ refl refl refl)
lawful_performed s c (Isolate id) n d ok en p = rw p.is (lawful_still s n _ (none_vacated s.spaces) refl refl)
lawful_performed s c (Query owner name) n d ok en p = rw p.is (lawful_still s n _ refl refl refl)
lawful_performed s c (Add id right) n d ok en p = rw p.is (lawful_still s n _ refl refl refl)
lawful_performed s c (Remove token) n d ok en p = rw p.is (lawful_still s n _ refl refl refl)
lawful_performed s c (Load register value) n d ok en p = rw p.is (lawful_still s n _ refl refl refl)
lawful_performed s c (Mode m) n d ok en p = rw p.is (lawful_still s n _ refl refl refl)
lawful_performed s c (Fetch register address) n d ok en p = lawful_access s c register address n false (λ u. fetch u address) d ok en (λ u i. i) (λ u k. refl) p
lawful_performed s c (Store register address) n d ok en p = lawful_access s c register address n true (λ u. store u address) d ok en (λ u i. i) (λ u k. refl) p
lawful_performed s c (Key key) n d ok en p = rw p.is (lawful_still s n _ refl refl refl)
lawful_performed s c (Block id address key mark) n d ok en p = rw p.is (lawful_still s n _ refl refl refl)
lawful_performed s c Reset n d ok en p =
    rw p.is (lawful_withdrawn s _ (λ u. is_data c.guest (space_at s.spaces u)) (λ u. is_owned c.guest (space_at s.spaces u)) n ok refl refl 0)

pub lawful : (s : State) (m : ℕ) (k : Call) (n : ℕ) → Sound s → Lawful s n (decide s m k n)
lawful s m k n ok = go (verdict s m k n)
  where
    go : Verdict (row k.operation) (Granted s m k n) (decide s m k n) → Lawful s n (decide s m k n)
    go (refused r) = rw r.is (lawful_still s n (refuse r.answer) refl refl refl)
    go (granted g) = lawful_performed s k.caller k.operation n (decide s m k n) ok g.caller g.performed

-- of a call on a machine that is ready
pub lawful_step : (m : Machine) (i : Issue) → Ready m → Lawful m.tables (length i.buffer) (decision m i)
lawful_step m i ready = lawful m.tables (length m.scratch) i.call (length i.buffer) ready.sound
