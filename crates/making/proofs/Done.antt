-- What is made where all checks passed is what the model says. Assumes nothing.
use Prim.Native.Nat.{ℕ, ◌+◌, ◌*◌, ◌≤◌, ◌<◌}
use mathlib.Core.Bool.{true}
use mathlib.Core.List.{List}
use mathlib.Core.Path.{◌≡◌, refl, subst, sym, ap, ap₂, fun_ext, ◌∙◌}
use native.Mathlib.Omega.{arith}
use lib.ListN.{length}
use lib.Seq.{get_or-set_same}
use borrow.Author.Tests.{lt-ltb}
use Rattle.std.specs.Prelude.{Result, Ok, Err}
use Rattle.model.specs.declared.Answer.{Answer}
use Rattle.model.specs.declared.Answer.TheVariants.{Done}
use Rattle.model.specs.declared.Call.{Call}
use Rattle.model.specs.declared.Change.{Change}
use Rattle.model.specs.declared.Guest.{Guest}
use Rattle.model.specs.declared.Space.{Space}
use Rattle.model.specs.declared.State.{State}
use Rattle.model.specs.Calls.{new_space, making, judge}
use Rattle.model.specs.Changes.{space_added, applied}
use Rattle.model.specs.Frames.{layout, has_frame}
use Rattle.model.specs.Leaves.{in_run}
use Rattle.model.specs.Replies.{reply, replied, Carried}
use Rattle.model.specs.Searches.{free_slot, free_run}
use Rattle.model.specs.SoundTest.{sound}
use Rattle.model.specs.Step.{clear_frames, scratch_after}
use Rattle.model.specs.Tables.{no_space, space_at, with_guests}
use Rattle.model.proofs.Rules.{goes, refused}
use Rattle.model.proofs.Runs.{lowest_run, has_run}
use Rattle.model.proofs.SoundTest.{sound_decides}
use Rattle.making.specs.declared.Placed.{Placed}
use Rattle.making.specs.Placing.{HasTables, PlacedAt, CallPlacedAt, CallPlacedTo}

module _ (s : State) (owner name pages u : ℕ) (x : Space) (m : List ℕ) (at : PlacedAt s owner name pages u x) where
  clear_fits : length m ≡ s.frames * 4096 → x.first * 4096 + x.pages * 4096 ≤ length m
  unfolding new_space
  clear_fits room = let q = ((lowest_run s pages).found at.run).inside in rw at.space (omega (arith, room, q))

  -- hs are the guests after the change c, which makes the space
  module _ (hs : List Guest) (c : Change) (to : applied s c ≡ space_added (with_guests s hs) (free_slot s.spaces) (new_space s owner name pages)) (ok : sound s ≡ true) where
    abbrev t : State
    t = space_added (with_guests s hs) u x

    made_is : applied s c ≡ t
    made_is = to ∙ rw (at.slot, at.space) refl

    slot_holds : space_at t.spaces u ≡ x
    slot_holds = get_or-set_same s.spaces u x no_space (rw ((sound_decides s).to ok).spaces.len at.low)

    frames_are : in_run x.first x.pages ≡ has_frame (layout t) t.spaces u
    frames_are = fun_ext (λ f. sym (has_run t.spaces u f ∙ ap (λ (y : Space). in_run y.first y.pages f) slot_holds))

    made : (m' : List ℕ) → m' ≡ clear_frames (in_run x.first x.pages) m → Carried s (making s pages c) (reply (Done s.next) t) m m'
    unfolding making replied scratch_after
    made m' cleared =
        goes _ s _ _ _ m m' (rw (← at.slot) (lt-ltb u 32 at.low))
        (goes _ s _ _ _ m m' (lt-ltb s.next 65536 at.unspent)
        (goes _ s _ _ _ m m' (lt-ltb (free_run s pages) s.frames at.run)
        (record {
          reply = ap (reply (Done s.next)) (sym made_is);
          scratch = cleared ∙ ap (λ fs. clear_frames fs m) frames_are ∙ ap₂ (λ (y : State) v. clear_frames (has_frame (layout y) y.spaces v) m) (sym made_is) at.slot;
        })))

-- What a call has decided, in the state that has the tables.
module _ (s : State) (k : Call) (name pages : ℕ) (ch : State → Change) (r : Result Placed Answer) (d : CallPlacedTo s.frames s.next s.spaces s.guests k name pages ch r) (m : List ℕ) where
  known : (y : Result Placed Answer) → r ≡ y → CallPlacedTo s.frames s.next s.spaces s.guests k name pages ch y
  known y e = subst (CallPlacedTo s.frames s.next s.spaces s.guests k name pages ch) e d

  shown : HasTables s s.frames s.next s.spaces
  shown = record { frames = refl; next = refl; spaces = refl }

  pub refuses : (a : Answer) → r ≡ Err a → Carried s (judge s k 0) (reply a s) m m
  refuses a e = refused s _ a m (known (Err a) e s shown refl)

  module _ (p : Placed) (e : r ≡ Ok p) where
    abbrev u : ℕ
    u = p.slot

    abbrev x : Space
    x = p.space

    granted : CallPlacedAt s k name pages (ch s) u x
    granted = known (Ok p) e s shown refl

    pub slot_low : u < 32
    slot_low = granted.placed.low

    pub guest_low : 1 ≤ k.caller.guest
    guest_low = granted.guest.low

    pub guest_high : k.caller.guest ≤ 8
    guest_high = granted.guest.high

    -- there is an identification left
    pub next_low : s.next < 65536
    next_low = granted.placed.unspent

    -- the run of the new space lies in scratch
    pub run_inside : length m ≡ s.frames * 4096 → x.first * 4096 + x.pages * 4096 ≤ length m
    run_inside = clear_fits s k.caller.guest name pages u x m granted.placed

    -- hs are the guests after it
    pub makes : (hs : List Guest) (m' : List ℕ) → applied s (ch s) ≡ space_added (with_guests s hs) (free_slot s.spaces) (new_space s k.caller.guest name pages) → sound s ≡ true
        → m' ≡ clear_frames (in_run x.first x.pages) m → Carried s (judge s k 0) (reply (Done x.id) (space_added (with_guests s hs) u x)) m m'
    unfolding new_space
    makes hs m' to ok cleared =
        let n : x.id ≡ s.next = ap (λ (y : Space). y.id) granted.placed.space in
        rw granted.judged
        (subst (λ i. Carried s (making s pages (ch s)) (reply (Done i) (space_added (with_guests s hs) u x)) m m') (sym n)
        (made s k.caller.guest name pages u x m granted.placed hs (ch s) to ok m' cleared))

pub frames_small : (s : State) → sound s ≡ true → s.frames ≤ 512
frames_small s ok = ((sound_decides s).to ok).head.frames_high
