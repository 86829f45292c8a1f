-- Every call keeps a sound state sound, and leaves a scratch of the right length so. Assumes nothing.
use Prim.Native.Nat.{ℕ, ◌*◌}
use mathlib.Core.Bool.{true, false}
use mathlib.Core.List.{List}
use mathlib.Core.Path.{◌≡◌, refl, sym, ap, ◌∙◌}
use lib.Dec.{leb}
use lib.ListN.{length}
use borrow.Author.Tests.{eqb-true, eqb-false, eq-eqb, leb-true}
use Rattle.lists.specs.Choice.{choose, both}
use Rattle.lists.proofs.Choice.{both_left, both_right, both_intro, not_to}
use Rattle.lists.proofs.Bytes.{length-put, length-get}
use Rattle.model.specs.declared.Call.{Call}
use Rattle.model.specs.declared.Caller.{Caller}
use Rattle.model.specs.declared.Guest.{Guest}
use Rattle.model.specs.declared.Operation.{Operation}
use Rattle.model.specs.declared.Operation.TheVariants.{Enrol, Create, Destroy, Permit, Isolate, Query, Add, Remove, Load, Mode, Fetch, Store, Reset, Key, Block}
use Rattle.model.specs.declared.State.{State}
use Rattle.model.specs.Arguments.{arguments}
use Rattle.model.specs.Calls.{enrols, may_enrol, good_caller, ready, decide}
use Rattle.model.specs.Decision.{Decision, after, Effect, none, clear, fetch, store}
use Rattle.model.specs.Frames.{layout, place_of}
use Rattle.model.specs.Granted.{Performed, AllFit, Granted}
use Rattle.model.specs.Searches.{enrolled}
use Rattle.model.specs.Sound.{Sound, IsGuest}
use Rattle.model.specs.SoundTest.{sound}
use Rattle.model.specs.Step.{Machine, Ready, Issue, decision, step, scratch_after, buffer_after}
use Rattle.model.specs.Tables.{guest_at}
use Rattle.model.specs.Verdict.{row, Verdict, refused, granted}
use Rattle.model.proofs.Blocks.{sound_block}
use Rattle.model.proofs.Clearing.{length-clear_frames}
use Rattle.model.proofs.Lawful.{lawful_step}
use Rattle.model.proofs.Make.{sound_create, sound_enrol}
use Rattle.model.proofs.Registers.{sound_load, sound_mode, sound_key}
use Rattle.model.proofs.Reset.{sound_destroy, sound_isolate, sound_reset}
use Rattle.model.proofs.Rights.{sound_permit, sound_add, sound_remove}
use Rattle.model.proofs.Searches.{enrolled_guest}
use Rattle.model.proofs.SoundTest.{sound_decides}
use Rattle.model.proofs.Verdict.{verdict}

-- check 2 of ENROL
pub may_enrol_lem : (gs : List Guest) (g : ℕ) → may_enrol gs g ≡ true → IsGuest g × ((guest_at gs g).enrolled ≡ false)
unfolding may_enrol
may_enrol_lem gs g e =
    let r = both_left (both (leb 1 g) (leb g 8)) _ e in
    (record { low = leb-true 1 g (both_left (leb 1 g) (leb g 8) r); high = leb-true g 8 (both_right (leb 1 g) (leb g 8) r) }, not_to _ (both_right (both (leb 1 g) (leb g 8)) _ e))

-- a done call, by what check 2, the checks of its arguments and its own have established
performed_sound : (s : State) (c : Caller) (k : Operation) (n : ℕ) (d : Decision) → Sound s → good_caller s c k ≡ true → AllFit (arguments s.guests c k n) → Performed s c k n d → Sound (after s d)
unfolding good_caller enrols choose arguments AllFit Performed
performed_sound s c (Enrol x) n d ok e fit p =
    let m = may_enrol_lem s.guests c.guest e in
    sound_enrol s c.guest x d ok m.0 m.1 (leb-true 1 x.pages (both_left _ _ fit.0)) (leb-true x.allowance 31 fit.1.0)
    (leb-true 1 x.list (both_left _ _ fit.1.1.1.0)) (leb-true x.list 30 (both_right (leb 1 x.list) _ fit.1.1.1.0)) p
performed_sound s c (Create name pages) n d ok e fit p = sound_create s c.guest name pages d ok e fit.0 (leb-true 1 pages (both_left _ _ fit.1.0)) p
performed_sound s c (Destroy id) n d ok e fit p = sound_destroy s c.guest id d ok p
performed_sound s c (Permit id guest right) n d ok e fit p =
    sound_permit s c.guest id guest right d ok (both_left _ _ fit.0) (eqb-false guest c.guest (not_to _ (both_right (enrolled s.guests guest) _ fit.0))) p
performed_sound s c (Isolate id) n d ok e fit p = sound_isolate s c.guest id d ok p
performed_sound s c (Query owner name) n d ok e fit p = rw p.is ok
performed_sound s c (Add id right) n d ok e fit p = sound_add s c.guest id right d ok e p
performed_sound s c (Remove token) n d ok e fit p = sound_remove s c.guest token d ok (enrolled_guest s.guests c.guest e) p
performed_sound s c (Load register value) n d ok e fit p = sound_load s c register value d ok e (leb-true register 15 fit.0) p
performed_sound s c (Mode m) n d ok e fit p = sound_mode s c m d ok e p
performed_sound s c (Fetch register address) n d ok e fit p = rw p.is ok
performed_sound s c (Store register address) n d ok e fit p = rw p.is ok
performed_sound s c Reset n d ok e fit p = sound_reset s c.guest d ok p
performed_sound s c (Key key) n d ok e fit p = sound_key s c key d ok e (leb-true key 15 fit.0) p
performed_sound s c (Block id address key mark) n d ok e fit p = sound_block s c.guest id address key mark d ok (leb-true key 15 fit.0) p

pub sound_kept : (s : State) (m : ℕ) (k : Call) (n : ℕ) → Sound s → Sound (after s (decide s m k n))
sound_kept s m k n ok = go (verdict s m k n)
  where
    go : Verdict (row k.operation) (Granted s m k n) (decide s m k n) → Sound (after s (decide s m k n))
    go (refused r) = rw r.is ok
    go (granted g) = performed_sound s k.caller k.operation n (decide s m k n) ok g.caller g.arguments g.performed

-- check 1, as a Boolean and as a statement
pub ready_to : (m : Machine) → ready m.tables (length m.scratch) ≡ true → Ready m
unfolding ready
ready_to m e = record { sound = (sound_decides m.tables).to (both_left _ _ e); room = eqb-true _ _ (both_right (sound m.tables) _ e) }

pub ready_of : (m : Machine) → Ready m → ready m.tables (length m.scratch) ≡ true
unfolding ready
ready_of m r = both_intro _ _ ((sound_decides m.tables).of r.sound) (eq-eqb _ _ r.room)

pub length-scratch_after : (s : State) (e : Effect) (m b : List ℕ) → length (scratch_after s e m b) ≡ length m
unfolding scratch_after
length-scratch_after s none m b = refl
length-scratch_after s (clear fs) m b = length-clear_frames fs m
length-scratch_after s (fetch u a) m b = refl
length-scratch_after s (store u a) m b = length-put (place_of (layout s) u) a b m

pub length-buffer_after : (s : State) (e : Effect) (m b : List ℕ) → length (buffer_after s e m b) ≡ length b
unfolding buffer_after
length-buffer_after s none m b = refl
length-buffer_after s (clear fs) m b = refl
length-buffer_after s (fetch u a) m b = length-get (place_of (layout s) u) a (length b) m
length-buffer_after s (store u a) m b = refl

-- over a list every call finds what the one before it left in order
pub ready_kept : (m : Machine) (i : Issue) → Ready m → Ready (step m i).machine
unfolding step
ready_kept m i r = record {
  sound = sound_kept m.tables (length m.scratch) i.call (length i.buffer) r.sound;
  room = length-scratch_after _ (decision m i).effect m.scratch i.buffer ∙ r.room ∙ ap (λ f. f * 4096) (sym (lawful_step m i r).frames);
}
