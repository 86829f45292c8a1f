-- One request, carried out: what the code has made is the turn of the session. Assumes nothing.
use Prim.Native.Nat.{ℕ, ◌+◌, ◌*◌, ◌≤◌}
use mathlib.Core.Bool.{Bool, true, false, not}
use mathlib.Core.List.{List, [], ◌++◌}
use mathlib.Core.Path.{◌≡◌, refl, subst, sym, ap, ◌∙◌}
use native.Mathlib.Omega.{arith}
use lib.Dec.{leb}
use lib.ListN.{length, take, drop}
use lib.Seq.{length-take-le, take-append_seam, drop-append_seam}
use borrow.Author.Tests.{not-true, not-false}
use Rattle.lists.specs.Bytes.{over}
use Rattle.lists.specs.Choice.{both}
use Rattle.lists.proofs.Choice.{yes!, no! }
use Rattle.model.specs.declared.Answer.{Answer}
use Rattle.model.specs.declared.Answer.TheVariants.{Done, Limit, Unsound, LineNotRead}
use Rattle.model.specs.declared.Call.{Call}
use Rattle.model.specs.declared.Kind.TheVariants.{Frames as FrameCount}
use Rattle.model.specs.declared.Request.{Request}
use Rattle.model.specs.declared.Request.TheVariants.{Frames, Call as Asked, NotRead}
use Rattle.model.specs.declared.State.{State}
use Rattle.model.specs.Classes.{class_of}
use Rattle.model.specs.Fresh.{empty_tables}
use Rattle.model.specs.Lines.{stores}
use Rattle.model.specs.Parts.{data_in}
use Rattle.model.specs.Replies.{reply}
use Rattle.model.specs.Session.{Turn, turn, buffer_for, frames_turn, request_turn}
use Rattle.model.specs.SoundTest.{sound}
use Rattle.deciding.specs.Served.{Served}
use Rattle.ready.specs.Usable.{usable}
use Rattle.turns.specs.declared.Host.{Host}
use Rattle.turns.specs.declared.Outcome.{Outcome}
use Rattle.turns.specs.Taken.{session_of, Prepared, buffer_length, Taken}
use Rattle.turns.proofs.Carried.{served_scratch, served_buffer, unready_taken, served_taken}
use Rattle.turns.proofs.Filled.{prepared_long, unstoring, part_given}
use Rattle.turns.proofs.Usable.{usable_sound, usable_room}

abbrev pub told : Request → Answer → Outcome
told q a = record { request = q; answer = a; moved = 0 }

-- what the turn is said to be: nothing changes
module _ (h : Host) (m b : List ℕ) (q : Request) (u : h.ready ≡ usable h.state (length m)) where
  as_it_was : (a : Answer) (t : Turn) → t ≡ turn q a [] (session_of h m) → Taken t (told q a) b h m
  as_it_was a t e = rw e (record { session = refl; outcome = refl; ready = u })

  pub unread : (o : Outcome) → q ≡ NotRead → o ≡ told q LineNotRead → Taken (request_turn (session_of h m) q (data_in q b)) o b h m
  unfolding request_turn
  unread o g e = rw e (as_it_was LineNotRead _ (rw g refl))

  -- a call before a done FRAMES, or where check 1 doesn't hold
  module _ (k : Call) (size : ℕ) (g : q ≡ Asked k size) where
    pub early : (o : Outcome) → not h.begun ≡ true → o ≡ told q LineNotRead → Taken (request_turn (session_of h m) q (data_in q b)) o b h m
    unfolding request_turn
    early o f e = rw e (as_it_was LineNotRead _ (rw g (no! _ _ (not-true h.begun f))))

    pub unready : (n : ℕ) → Prepared q b → n ≡ buffer_length (class_of k.operation).moves size → not h.begun ≡ false → not h.ready ≡ true
        → Taken (request_turn (session_of h m) q (data_in q b)) (record { request = q; answer = Unsound; moved = n }) b h m
    unready n p c f r =
        let part = part_given q k size n b g p c in
        subst (λ (w : Request). Taken (request_turn (session_of h m) w (data_in q b)) (record { request = w; answer = Unsound; moved = n }) b h m) (sym g)
        (unready_taken h m (data_in q b) k size (not-false h.begun f) u _ b (not-true h.ready r) (ap (λ (l : List ℕ). record { request = Asked k size; answer = Unsound; moved = l }) part))

  -- FRAMES, after a done one or for a number that no session has
  module _ (count : ℕ) (g : q ≡ Frames count) where
    pub frames_again : (o : Outcome) → h.begun ≡ true → o ≡ told q LineNotRead → Taken (request_turn (session_of h m) q (data_in q b)) o b h m
    unfolding request_turn frames_turn
    frames_again o f e = rw e (as_it_was LineNotRead _ (rw g (yes! _ _ f)))

    pub frames_out : (o : Outcome) (x : Bool) → h.begun ≡ false → x ≡ both (leb 1 count) (leb count 8) → not x ≡ true → o ≡ told q (Limit FrameCount 1)
        → Taken (request_turn (session_of h m) q (data_in q b)) o b h m
    unfolding request_turn frames_turn
    frames_out o x f is y e = rw e (as_it_was (Limit FrameCount 1) _ (rw g (no! _ _ f ∙ no! _ _ (sym is ∙ not-true x y))))

-- a FRAMES that is done: the fresh state, tested
pub frames_done : (h : Host) (m b : List ℕ) (q : Request) (count : ℕ) (o : Outcome) (x y : Bool) (s : State) → q ≡ Frames count → h.begun ≡ false → x ≡ both (leb 1 count) (leb count 8)
    → not x ≡ false → s ≡ empty_tables count 1 → y ≡ usable s (length m) → o ≡ told q (Done 0)
    → Taken (request_turn (session_of h m) q (data_in q b)) o b (record { begun = true; ready = y; state = s }) m
unfolding request_turn frames_turn
frames_done h m b q count o x y s g f is z p k e =
    rw e
    (as_it_was (record { begun = true; ready = y; state = s }) m b q k (Done 0) _
    (rw g (no! _ _ f ∙ yes! _ _ (sym is ∙ not-false x z) ∙ ap (λ t. turn (Frames count) (Done 0) [] (record { begun = true; tables = t; scratch = m })) (sym p))))

-- a FRAMES has no data, whatever stands in the buffer
pub frames_bare : (h : Host) (m b b' : List ℕ) (q : Request) (count : ℕ) (o : Outcome) (t : Host) → q ≡ Frames count
    → Taken (request_turn (session_of h m) (Frames count) (data_in (Frames count) b')) o b' t m → Taken (request_turn (session_of h m) q (data_in q b)) o b' t m
unfolding stores
frames_bare h m b b' q count o t g d = rw (g, unstoring (Frames count) b refl, ← unstoring (Frames count) b' refl) d

-- A call where check 1 holds: what it finds.
module _ (h : Host) (m : List ℕ) (u : h.ready ≡ usable h.state (length m)) (r : not h.ready ≡ false) where
  abbrev room : ℕ
  room = h.state.frames * 4096

  pub call_room : room ≤ length m
  call_room = usable_room h.state m h.ready u (not-false h.ready r)

  pub call_sound : sound h.state ≡ true
  call_sound = usable_sound h.state m h.ready u (not-false h.ready r)

  pub call_part : room ≡ length (take room m)
  call_part = sym (length-take-le room m call_room)

  -- It has been served: `m'` and `b'` are its parts of scratch and of the buffer after it.
  module _ (q : Request) (k : Call) (size n : ℕ) (b m' b' : List ℕ) (a : Answer) (t : State) (g : q ≡ Asked k size) (p : Prepared q b)
      (c : n ≡ buffer_length (class_of k.operation).moves size) (few : n ≤ 257) (f : not h.begun ≡ false)
      (d : Served h.state k (reply a t) (take room m) (take n b) m' b') where
    served : Served h.state k (reply a t) (take room m) (buffer_for k.operation size (data_in q b)) m' b'
    served = rw (part_given q k size n b g p c) at d

    long : length b' ≡ n
    long = served_buffer h.state k _ _ m' b' _ d ∙ length-take-le n b (omega (arith, prepared_long q b p))

    moved : take n (b' ++ drop n b) ≡ b'
    moved = ap (λ j. take j (b' ++ drop n b)) (sym long) ∙ take-append_seam b' _

    -- the bytes behind them stay
    pub carried_beyond : drop n (b' ++ drop n b) ≡ drop n b
    carried_beyond = ap (λ j. drop j (b' ++ drop n b)) (sym long) ∙ drop-append_seam b' _

    back : over m 0 m' ≡ m' ++ drop room m
    unfolding over
    back =
        let l : length m' ≡ room = served_scratch h.state k _ _ m' b' _ d ∙ sym call_part in
        let j : 0 + length m' ≡ room = omega (arith, l) in
        ap (λ w. m' ++ drop w m) j

    pub carried_taken : Taken (request_turn (session_of h m) q (data_in q b)) (record { request = q; answer = a; moved = n }) (b' ++ drop n b)
        (record { begun = h.begun; ready = h.ready; state = t }) (m' ++ drop room m)
    carried_taken =
        rw (← back)
        (subst (λ (w : Request). Taken (request_turn (session_of h m) w (data_in q b)) (record { request = w; answer = a; moved = n }) (b' ++ drop n b) (record { begun = h.begun; ready = h.ready; state = t }) (over m 0 m')) (sym g)
        (served_taken h m (data_in q b) k size (not-false h.begun f) u (reply a t) m' b' (not-false h.ready r) served _ _
        (ap (λ (l : List ℕ). record { request = Asked k size; answer = a; moved = l }) moved)))
