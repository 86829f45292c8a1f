-- How the work ends: at the end of the input, and at a read that failed. Assumes nothing.
use Rattle.std.proofs.Common.{◌≡◌, ℕ, ◌+◌, ◌<◌, ◌≤◌, Bool, List, [], length, take, Option, None, Some, Result, Ok, Err, sym, refl, ap, ◌∙◌, subst, mod-eq_of_lt, arith}
use Rattle.descriptors.specs.declared.Stopped as descriptors
use Rattle.descriptors.specs.declared.Stopped.TheVariants.{Failed}
use Rattle.feeds.specs.Feed.{Feed, after, said, last_words, all_said, new_feed}
use Rattle.feeds.specs.Fed.{closing, FinishedTo, finished, full}
use Rattle.feeds.proofs.Chain.{wrote_text}
use Rattle.driver.specs.Fed.{opened}
use Rattle.works.specs.Fed.{feed_by}
use Rattle.works.specs.declared.Work.{Work}
use Rattle.works.specs.declared.Work.TheVariants.{Answering, Rewriting}
use Rattle.relay.specs.declared.Failure.{Failure}
use Rattle.relay.specs.declared.Failure.TheVariants.{Reading}
use Rattle.relay.specs.declared.Halt.{Halt}
use Rattle.relay.specs.Spoken.{counted, replied_to, Stopped}
use Rattle.relay.specs.Ran.{How, Ran, answered, unread, unwritten, Stops, ended_unwritten, failed, interrupted, brought, RunTo, headed}

-- no input
none_counted : (n : ℕ) → n < 18446744073709551616 → n ≡ counted (n + 0)
none_counted n l = let z : n ≡ n + 0 = omega arith in sym (ap counted (sym z) ∙ mod-eq_of_lt l)

none_said : (f : Feed) → said f [] ≡ []
unfolding said
none_said f = refl

none_after : (f : Feed) → after f [] ≡ f
unfolding after
none_after f = refl

none_all : (f : Feed) → all_said f [] ≡ last_words f
unfolding said after
none_all f = refl

-- the end of the input: the last words, in the room
last_text : {f : Feed} {m out m' out' : List ℕ} {done : Bool} {n : ℕ} → FinishedTo f m out done n m' out' → 600 ≤ length out → take n out' ≡ all_said f []
last_text {f} (finished k w e) room = wrote_text w ∙ sym (none_all f)
last_text (full k) room = absurd (omega arith)

last_scratch : {f : Feed} {m out m' out' : List ℕ} {done : Bool} {n : ℕ} → FinishedTo f m out done n m' out' → 600 ≤ length out → m' ≡ (closing (after f [])).session.scratch
last_scratch {f} (finished k w e) room = e ∙ ap (λ (g : Feed). (closing g).session.scratch) (sym (none_after f))
last_scratch (full k) room = absurd (omega arith)

module _ {f : Feed} {m out m' out' : List ℕ} {done : Bool} {n : ℕ} (e : FinishedTo f m out done n m' out') (room : 600 ≤ length out) {line : ℕ} (first : line ≡ f.line)
    {t w : ℕ} (small : t < 18446744073709551616) {written : ℕ} where
  pub end_unwritten : {h : Halt} → Stopped (take n out') line w h written → Ran f t w (Err h.failure) h.line t written m'
  end_unwritten {h} x =
      let s : Stopped (all_said f []) f.line w h written =
      subst (λ (l : List ℕ). Stopped l f.line w h written) (last_text e room) (subst (λ (i : ℕ). Stopped (take n out') i w h written) first x) in
      subst (λ (k : Failure). Ran f t w (Err k) h.line t written m') (sym s.failure) (unwritten [] s.count (none_counted t small) s.short s.sum s.last)

  pub end_answered : {last : ℕ} → written ≡ counted (w + length (take n out')) → last ≡ replied_to line (take n out') → Ran f t w (Ok tt) last t written m'
  end_answered y q =
      answered [] (none_counted t small) (y ∙ ap (λ (l : List ℕ). counted (w + length l)) (last_text e room))
      (q ∙ (ap (λ (i : ℕ). replied_to i (take n out')) first ∙ ap (replied_to f.line) (last_text e room))) (last_scratch e room)

pub end_stops : {text : List ℕ} {first before : ℕ} {h : Halt} {written : ℕ} → Stopped text first before h written → Stops (Ok None) (Err h.failure)
end_stops s = subst (λ (k : Failure). Stops (Ok None) (Err k)) (sym s.failure) ended_unwritten

-- a read that failed
reading : {s : descriptors.Stopped} {x : Failure} → Stops (Err s) (Err x) → (e : ℕ) × (x ≡ Reading e)
reading failed = (_, refl)
reading interrupted = (_, refl)

-- a read that brought bytes, left as one that failed with no error
pub brought_as : {got : Result (Option ℕ) descriptors.Stopped} {o : Option ℕ} {n : ℕ} {x : Failure} → got ≡ Ok o → o ≡ Some n → Stops (Err (Failed 0)) (Err x)
    → Stops got (Err x)
brought_as e i failed = rw (e, i) brought

-- where the work stands holds the scratch that it is given
standing_scratch : (w : Work) (h m : List ℕ) → m ≡ (feed_by w h m).session.scratch
standing_scratch (Answering s) h m = refl
standing_scratch (Rewriting r) h m = refl

pub left_unread : (w : Work) (h m : List ℕ) {t n : ℕ} {s : descriptors.Stopped} {x : Failure} {line : ℕ} → t < 18446744073709551616 → n < 18446744073709551616
    → Stops (Err s) (Err x) → line ≡ replied_to (feed_by w h m).line [] → Ran (feed_by w h m) t n (Err x) line t n m
left_unread w h m {t} {n} {s} {x} {line} tl nl k l =
    let r = reading k in
    let f = feed_by w h m in
    subst (λ (y : Failure). Ran (feed_by w h m) t n (Err y) line t n m) (sym r.1)
    (unread [] (none_counted t tl) (none_counted n nl ∙ ap (λ (k : List ℕ). counted (n + length k)) (sym (none_said f)))
    (l ∙ ap (replied_to f.line) (sym (none_said f))) (standing_scratch w h m ∙ ap (λ (g : Feed). g.session.scratch) (sym (none_after f))))

-- a session from its start
pub run_headed : {w : Work} (held scratch : List ℕ) {how : How} {line taken written : ℕ} {m : List ℕ} → w ≡ Answering opened → Ran (feed_by w held scratch) 0 0 how line taken written m
    → RunTo (new_feed scratch) how line taken written m
run_headed held scratch {how} {line} {taken} {written} {m} e r =
    headed (subst (λ (k : Work). Ran (feed_by k held scratch) 0 0 how line taken written m) e r)
