-- The calls among the lines of a session, and what they came to. Paper 01: each call "gets the tables and scratch that the one
-- before it returned or left"; here these calls are a run of the model, so that what is claimed of runs holds of sessions.
use Rattle.std.specs.Prelude.{ℕ, ◌*◌, List, [], ◌∷◌, take, ◌==◌, nat_le}
use Rattle.lists.specs.Choice.{choose, both}
use Rattle.model.specs.declared.Answer.{Answer}
use Rattle.model.specs.declared.Request.{Request}
use Rattle.model.specs.declared.Request.TheVariants.{Frames, Call, NotRead}
use Rattle.model.specs.Answers.{number}
use Rattle.model.specs.Fresh.{empty_tables}
use Rattle.model.specs.Lines.{read_line, data_of}
use Rattle.model.specs.Session.{LineOutcome, issue_of}
use Rattle.model.specs.Sizes.{frame_size}
use Rattle.model.specs.Step.{Machine, Issue, Outcome, run}

-- the calls among lines, each with its buffer
unfoldable pub with_issue : Request → (bytes : List ℕ) → List Issue → List Issue
with_issue (Call k n) d is = issue_of k n d ∷ is
with_issue (Frames f) d is = is
with_issue NotRead d is = is

unfoldable pub issues : List (List ℕ) → List Issue
issues [] = []
issues (l ∷ ls) = with_issue (read_line l) (data_of l) (issues ls)

-- what a call came to: its answer, and its buffer after it
pub record Result : Type 0 where
  pub answer : Answer
  pub moved : List ℕ

abbrev pub result : Answer → List ℕ → Result
result a b = record { answer = a; moved = b }

unfoldable pub results : List Outcome → List Result
results [] = []
results (o ∷ os) = result o.answer o.buffer ∷ results os

-- the calls among line outcomes that were carried out: those before a done FRAMES are answered 21
unfoldable pub with_result : Request → Result → List Result → List Result
with_result (Call k n) r rs = choose (number r.answer == 21) rs (r ∷ rs)
with_result (Frames f) r rs = rs
with_result NotRead r rs = rs

unfoldable pub served : List LineOutcome → List Result
served [] = []
served (o ∷ os) = with_result o.request (result o.answer o.moved) (served os)

-- the first FRAMES that is done, and the lines after it
pub data Opening : Type 0 where
  unopened : Opening
  opened : (frames : ℕ) → (rest : List (List ℕ)) → Opening

unfoldable pub opened_by : Request → (rest : List (List ℕ)) → Opening → Opening
opened_by (Frames f) ls o = choose (both (nat_le 1 f) (nat_le f 8)) (opened f ls) o
opened_by (Call k n) ls o = o
opened_by NotRead ls o = o

unfoldable pub opening : List (List ℕ) → Opening
opening [] = unopened
opening (l ∷ ls) = opened_by (read_line l) ls (opening ls)

-- a fresh state with its part of the lent scratch, and the run of all calls from there
abbrev pub fresh_machine : (frames : ℕ) → (scratch : List ℕ) → Machine
fresh_machine f m = record { tables = empty_tables f 1; scratch = take (f * frame_size) m }

unfoldable pub run_from : (scratch : List ℕ) → Opening → List Outcome
run_from m unopened = []
run_from m (opened f ls) = run (fresh_machine f m) (issues ls)
