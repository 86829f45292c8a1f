-- A line, read and answered. Assumes nothing.
use Rattle.std.proofs.Common.{◌≡◌, ℕ, Bool, true, false, List, [], take, replicate, sym, refl, ap, ◌∙◌, take_at}
use Rattle.lists.specs.Bytes.{over}
use Rattle.lists.specs.Choice.{choose}
use Rattle.lists.proofs.Choice.{yes!, no! }
use Rattle.model.specs.declared.Request.{Request}
use Rattle.model.specs.Lines.{stores, length_of, read_line, data_of}
use Rattle.model.specs.Parts.{data_in}
use Rattle.model.specs.Session.{request_turn, line_turn, line_text}
use Rattle.lines.proofs.Stored.{data_length, data_most, data_none}
use Rattle.digits.specs.Wrote.{Wrote}
use Rattle.turns.specs.declared.Host.{Host}
use Rattle.turns.specs.declared.Outcome.{Outcome}
use Rattle.turns.specs.Taken.{session_of, outcome_of, Prepared, Taken}

-- What the reader leaves of the line l: its request q, and its data over the zeros of a buffer b.
module _ (l : List ℕ) (q : Request) (b : List ℕ) (e : q ≡ read_line l) (f : b ≡ over (replicate 257 0) 0 (data_of l)) where
  read_data : data_in q b ≡ data_of l
  unfolding data_in over
  read_data = rw e (go (stores (read_line l)) refl)
    where
      go : (t : Bool) → stores (read_line l) ≡ t → choose (stores (read_line l)) (take (length_of (read_line l)) b) [] ≡ data_of l
      go true y = yes! _ _ y ∙ rw f (take_at (data_of l) _ (length_of (read_line l)) (data_length l y))
      go false y = no! _ _ y ∙ sym (data_none l y)

  pub read_prepared : Prepared q b
  read_prepared = record { filled = f ∙ ap (over (replicate 257 0) 0) (sym read_data); fits = λ y. rw e (data_most l (rw e at y)) }

  -- the request has been carried out
  module _ (h₀ h : Host) (m₀ m b₁ : List ℕ) (o : Outcome) (t : Taken (request_turn (session_of h₀ m₀) q (data_in q b)) o b₁ h m) where
    line_taken : Taken (line_turn (session_of h₀ m₀) l) o b₁ h m
    line_taken = rw (read_data, e) at t

    pub line_session : session_of h m ≡ (line_turn (session_of h₀ m₀) l).after
    line_session = line_taken.session

    pub line_said : (n a p : ℕ) (out out₁ : List ℕ) → Wrote out a (line_text n (outcome_of o b₁)) out₁ p → Wrote out a (line_text n (line_turn (session_of h₀ m₀) l).outcome) out₁ p
    line_said n a p out out₁ w = rw line_taken.outcome at w
