-- A request by what it sees of the tables: what the code has made is what becomes of it on all tables that show this. Assumes
-- nothing.
use Prim.Native.Nat.{ℕ, ◌*◌, ◌≤◌}
use mathlib.Core.Bool.{true, false, not}
use mathlib.Core.List.{List, ◌++◌}
use mathlib.Core.Path.{◌≡◌, subst, sym}
use lib.ListN.{take, drop}
use borrow.Author.Tests.{not-false}
use Rattle.model.specs.declared.Answer.{Answer}
use Rattle.model.specs.declared.Answer.TheVariants.{Unsound, LineNotRead}
use Rattle.model.specs.declared.Call.{Call}
use Rattle.model.specs.declared.Change.{Change}
use Rattle.model.specs.declared.Change.TheVariants.{IsolateSpace}
use Rattle.model.specs.declared.Request.{Request}
use Rattle.model.specs.declared.Request.TheVariants.{Frames, Call as Asked, NotRead}
use Rattle.model.specs.Changes.{applied}
use Rattle.model.specs.Classes.{class_of}
use Rattle.model.specs.Replies.{reply}
use Rattle.asks.specs.Asks.{asks_by, asks_for}
use Rattle.edits.specs.declared.Edit.TheVariants.{Nothing}
use Rattle.edits.specs.Edits.{change_of, Fits}
use Rattle.views.specs.Views.{view_of}
use Rattle.deciding.specs.Decisions.{CarriedOut, DecidedTo, whole, with_edit as edit_out, with_closing as closing_out}
use Rattle.deciding.specs.Served.{Served}
use Rattle.turns.specs.declared.Host.{Host}
use Rattle.turns.specs.declared.Outcome.{Outcome}
use Rattle.turns.specs.Taken.{Prepared, buffer_length}
use Rattle.turns.specs.Told.{host_of, Waiting, AnsweredBy, AnsweredTo, waits, with_edit, with_closing}
use Rattle.turns.proofs.Turned.{told, unread, early, unready, carried_taken}
use Rattle.turns.proofs.Usable.{usable_sound}

module _ (h : Host) (m b : List ℕ) (q : Request) where
  -- FRAMES looks at no tables before it has made them
  pub frames_wait : (count : ℕ) (o : Outcome) (m' b' : List ℕ) → q ≡ Frames count → AnsweredTo h q m b o m' b'
  frames_wait count o m' b' g = waits (subst (Waiting h.begun h.ready) (sym g) tt)

  -- a request that changes nothing: one that is not read, and a call before a done FRAMES or where check 1 doesn't hold
  pub unread_seen : (o : Outcome) → q ≡ NotRead → o ≡ told q LineNotRead → AnsweredTo h q m b o m b
  unfolding change_of Fits
  unread_seen o g e = with_edit Nothing tt (record { taken = λ s z. unread (host_of h s) m b q z.ready o g e })

  module _ (k : Call) (size : ℕ) (g : q ≡ Asked k size) where
    pub early_seen : (o : Outcome) → not h.begun ≡ true → o ≡ told q LineNotRead → AnsweredTo h q m b o m b
    unfolding change_of Fits
    early_seen o f e = with_edit Nothing tt (record { taken = λ s z. early (host_of h s) m b q z.ready k size g o f e })

    module _ (n : ℕ) (p : Prepared q b) (c : n ≡ buffer_length (class_of k.operation).moves size) (f : not h.begun ≡ false) where
      pub unready_seen : not h.ready ≡ true → AnsweredTo h q m b (record { request = q; answer = Unsound; moved = n }) m b
      unfolding change_of Fits
      unready_seen r = with_edit Nothing tt (record { taken = λ s z. unready (host_of h s) m b q z.ready k size g n p c f r })

      -- a call that was served: `m'` and `b'` are its parts of scratch and of the buffer after it
      module _ (m' b' : List ℕ) (a : Answer) (few : n ≤ 257) (r : not h.ready ≡ false) where
        served_by : (ch : Change) → CarriedOut (view_of h.state (asks_by k.caller.guest k.operation)) k.operation (take (h.state.frames * 4096) m) (take n b) a ch m' b'
            → AnsweredBy h q m b (record { request = q; answer = a; moved = n }) ch (m' ++ drop (h.state.frames * 4096) m) (b' ++ drop n b)
        unfolding asks_for
        served_by ch out = record {
          taken = λ s z.
              let t = not-false h.ready r in
              let d : Served s k (reply a (applied s ch)) (take (h.state.frames * 4096) m) (take n b) m' b' =
              out.served s k.caller (usable_sound s m h.ready z.ready t) (rw g at z.view) in
              rw z.frames (carried_taken (host_of h s) m z.ready r q k size n b m' b' a (applied s ch) g p c few f (rw z.frames at d));
        }

        pub served_seen : DecidedTo (view_of h.state (asks_by k.caller.guest k.operation)) k.operation (take (h.state.frames * 4096) m) (take n b) a m' b'
            → AnsweredTo h q m b (record { request = q; answer = a; moved = n }) (m' ++ drop (h.state.frames * 4096) m) (b' ++ drop n b)
        served_seen (whole w) = waits (subst (Waiting h.begun h.ready) (sym g) (not-false h.begun f, not-false h.ready r, w))
        served_seen (edit_out e y out) = with_edit e y (served_by (change_of e) out)
        served_seen (closing_out u l z out) = with_closing u l (served_by (IsolateSpace u) out)
