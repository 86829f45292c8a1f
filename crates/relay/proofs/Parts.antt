-- The parts of a piece, fed and answered one after another. Assumes nothing.
use Rattle.std.proofs.Common.{◌≡◌, ℕ, ◌+◌, ◌-◌, ◌<◌, ◌≤◌, List, Ok, Err, ◌++◌, length, take, drop, sym, refl, ap, ◌∙◌, subst, append_assoc, mod-eq_of_lt, arith, length-append, length-drop, take-append-drop, take_all, take-add}
use Rattle.feeds.specs.Feed.{Feed, after, said}
use Rattle.feeds.specs.Fed.{FedTo}
use Rattle.feeds.proofs.Bounds.{fed_some}
use Rattle.feeds.proofs.Chain.{wrote_text}
use Rattle.feeds.proofs.Pieces.{after_append, said_append}
use Rattle.relay.specs.declared.Halt.{Halt}
use Rattle.relay.specs.Spoken.{counted, Stopped}
use Rattle.relay.specs.Ran.{PieceTo}
use Rattle.relay.proofs.Lines.{Numbered, numbered}
use Rattle.relay.proofs.Spoken.{stopped_after, sum_join}

-- one feed, and what is said to it
pub record Fed (f : Feed) (rest : List ℕ) (used : ℕ) (t : List ℕ) (g : Feed) : Type 0 where
  pub feed : g ≡ after f (take used rest)
  pub within : used ≤ length rest
  pub some : 0 < length rest → 0 < used
  pub text : t ≡ said f (take used rest)

pub part_to : {f g : Feed} {rest out out' : List ℕ} {used n : ℕ} → FedTo f rest out used n g out' → 600 ≤ length out → Fed f rest used (take n out') g
part_to {f} {g} {rest} {out} {out'} {used} {n} t room =
    record { feed = t.going.feed; within = t.going.within; some = fed_some f rest out used n g out' t room; text = wrote_text t.going.text }

-- a part that is lent from a place on
pub rest_lent : (l : List ℕ) (p : ℕ) → take (length l - p) (drop p l) ≡ drop p l
rest_lent l p = take_all (length l - p) (drop p l) (simp length-drop (omega arith))

-- The first `from` bytes of the piece have been fed, and the replies to them written.
pub record Parts (f : Feed) (piece : List ℕ) (before from w : ℕ) (g : Feed) : Type 0 where
  pub within : from ≤ length piece
  pub feed : g ≡ after f (take from piece)
  pub sum : w ≡ counted (before + length (said f (take from piece)))

pub parts_start : (f : Feed) (piece : List ℕ) (before : ℕ) → before < 18446744073709551616 → Parts f piece before 0 before f
unfolding after said
parts_start f piece before k =
    record { within = omega arith; feed = refl; sum = sym (ap counted (omega arith) ∙ mod-eq_of_lt k) }

module _ {f g h : Feed} {piece rest text : List ℕ} {before from w used : ℕ} (p : Parts f piece before from w g) (q : rest ≡ drop from piece) (t : Fed g rest used text h) where
  more : take (from + used) piece ≡ take from piece ++ take used rest
  more = take-add from used piece ∙ ap (λ (l : List ℕ). take from piece ++ take used l) (sym q)

  said_more : said f (take (from + used) piece) ≡ said f (take from piece) ++ text
  said_more =
      ap (said f) more
      ∙ (said_append f (take from piece) (take used rest)
      ∙ (ap (λ (k : Feed). said f (take from piece) ++ said k (take used rest)) (sym p.feed) ∙ ap (λ (l : List ℕ). said f (take from piece) ++ l) (sym t.text)))

  pub parts_more : {written : ℕ} → written ≡ counted (w + length text) → Parts f piece before (from + used) written h
  parts_more e =
      let n : length (said f (take from piece)) + length text ≡ length (said f (take (from + used) piece)) = sym (ap length said_more ∙ simp length-append) in
      record {
        within = omega (arith, t.within, p.within, ap length q ∙ length-drop from piece);
        feed = t.feed ∙ (ap (λ (k : Feed). after k (take used rest)) p.feed ∙ (sym (after_append f (take from piece) (take used rest)) ∙ ap (after f) (sym more)));
        sum = e ∙ (sum_join before w (length (said f (take from piece))) (length text) p.sum ∙ ap (λ (k : ℕ). counted (before + k)) n);
      }

  -- what is said to the rest is not written
  abbrev unsaid : List ℕ
  unsaid = said (after f (take (from + used) piece)) (drop (from + used) piece)

  said_whole : said f piece ≡ said f (take from piece) ++ (text ++ unsaid)
  said_whole =
      ap (said f) (sym (take-append-drop (from + used) piece))
      ∙ (said_append f (take (from + used) piece) (drop (from + used) piece)
      ∙ (ap (λ (k : List ℕ). k ++ unsaid) said_more ∙ append_assoc (said f (take from piece)) text unsaid))

  pub parts_fail : {s : Halt} {line written : ℕ} → line ≡ g.line → Stopped text line w s written → PieceTo f piece before (Err s) written h
  parts_fail {s} {line} {written} k x =
      let n : Numbered f (said f (take from piece)) g = subst (Numbered f (said f (take from piece))) (sym p.feed) (numbered f (take from piece)) in
      record { feed = λ i. cc; text = subst (λ (l : List ℕ). Stopped l f.line before s written) (sym said_whole) (stopped_after unsaid n p.sum (subst (λ (i : ℕ). Stopped text i w s written) k x)) }

pub parts_all : {f g : Feed} {piece : List ℕ} {before from w : ℕ} → Parts f piece before from w g → length piece ≤ from → PieceTo f piece before (Ok tt) w g
parts_all {f} {g} {piece} {before} {from} p l =
    let a : take from piece ≡ piece = take_all from piece l in
    record { feed = λ _. p.feed ∙ ap (after f) a; text = p.sum ∙ ap (λ (k : List ℕ). counted (before + length (said f k))) a }
