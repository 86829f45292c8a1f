-- The calls that a session carries out are a run of the model from a fresh state. Assumes nothing.
use Rattle.std.proofs.Common.{◌≡◌, ℕ, ◌*◌, ◌≤◌, Bool, true, false, leb, List, [], ◌∷◌, length, take, refl, ap, ◌∙◌, arith, length-take-le, eq-eqb, ne_eqb}
use Rattle.lists.specs.Bytes.{over}
use Rattle.lists.specs.Choice.{choose, both}
use Rattle.lists.proofs.Choice.{yes!, no! }
use Rattle.lists.proofs.Parts.{take_back}
use Rattle.model.specs.declared.Answer.TheVariants.{Done, Limit}
use Rattle.model.specs.declared.Kind.TheVariants.{Frames as FrameCount}
use Rattle.model.specs.declared.Request.{Request}
use Rattle.model.specs.declared.Request.TheVariants.{Frames, Call, NotRead}
use Rattle.model.specs.Answers.{number}
use Rattle.model.specs.Fresh.{empty_tables}
use Rattle.model.specs.Lines.{read_line, data_of}
use Rattle.model.specs.Session.{Session, Turn, scratch_room, machine_of, with_machine, issue_of, turn, call_turn, request_turn, frames_turn, lines_from, outcomes, new_session, session_outcomes}
use Rattle.model.specs.Step.{Machine, Ready, Issue, step, run}
use Rattle.model.proofs.Fresh.{sound_empty}
use Rattle.model.proofs.Steps.{never_21, frames_kept, room_kept}
use Rattle.driver.specs.Served.{with_issue, issues, Result, result, results, with_result, served, opened, opened_by, opening, fresh_machine, run_from}

-- the machine of a session, after a step
machine_back : (s : Session) (i : Issue) → machine_of (with_machine s (step (machine_of s) i).machine) ≡ (step (machine_of s) i).machine
machine_back s i =
    let m = (step (machine_of s) i).machine in
    let f : m.tables.frames ≡ s.tables.frames = frames_kept (machine_of s) i in
    ap (λ (l : List ℕ). record { tables = m.tables; scratch = l })
    (ap (λ n. take (n * 4096) (over s.scratch 0 m.scratch)) f
    ∙ take_back (scratch_room s) s.scratch m.scratch (room_kept (machine_of s) i))

-- what is served of a line and those after it
abbrev served_from : Turn → List (List ℕ) → List Result
served_from t ls = with_result t.outcome.request (result t.outcome.answer t.outcome.moved) (served (outcomes t.after ls))

-- from a done FRAMES on, every call is a step
begun_run : (s : Session) (ls : List (List ℕ)) → s.begun ≡ true → served (outcomes s ls) ≡ results (run (machine_of s) (issues ls))
unfolding outcomes served issues run results request_turn frames_turn with_issue with_result
begun_run s [] e = refl
begun_run s (l ∷ ls) e = go (read_line l) (λ t b. begun_run t ls b)
  where
    go : (r : Request) → ((t : Session) → t.begun ≡ true → served (outcomes t ls) ≡ results (run (machine_of t) (issues ls)))
        → served_from (request_turn s r (data_of l)) ls ≡ results (run (machine_of s) (with_issue r (data_of l) (issues ls)))
    go (Frames f) rest = ap (λ (t : Turn). served_from t ls) (yes! _ _ e) ∙ rest s e
    go (Call k n) rest =
        let o = step (machine_of s) (issue_of k n (data_of l)) in
        ap (λ (t : Turn). served_from t ls) (yes! (call_turn s (Call k n) o) _ e)
        ∙ no! _ _ (ne_eqb (number o.answer) 21 (never_21 (machine_of s) (issue_of k n (data_of l))))
        ∙ ap (λ (rs : List Result). result o.answer o.buffer ∷ rs)
        (rest (with_machine s o.machine) e ∙ ap (λ (m : Machine). results (run m (issues ls))) (machine_back s (issue_of k n (data_of l))))
    go NotRead rest = rest s e

-- before it, no call is carried out and nothing changes
begun_with : Session → (frames : ℕ) → Session
begun_with s f = record { begun = true; tables = empty_tables f 1; scratch = s.scratch }

by_frames : (s : Session) (f : ℕ) (ls : List (List ℕ)) (good : Bool) → served (outcomes s ls) ≡ results (run_from s.scratch (opening ls))
    → served_from (choose good (turn (Frames f) (Done 0) [] (begun_with s f)) (turn (Frames f) (Limit FrameCount 1) [] s)) ls
    ≡ results (run_from s.scratch (choose good (opened f ls) (opening ls)))
unfolding choose with_result run_from begun_with
by_frames s f ls true rest = begun_run (begun_with s f) ls refl
by_frames s f ls false rest = rest

unbegun_run : (s : Session) (ls : List (List ℕ)) → s.begun ≡ false → served (outcomes s ls) ≡ results (run_from s.scratch (opening ls))
unfolding outcomes served opening request_turn frames_turn opened_by run_from results with_result number begun_with
unbegun_run s [] e = refl
unbegun_run s (l ∷ ls) e = go (read_line l) (unbegun_run s ls e)
  where
    go : (r : Request) → served (outcomes s ls) ≡ results (run_from s.scratch (opening ls)) → served_from (request_turn s r (data_of l)) ls ≡ results (run_from s.scratch (opened_by r ls (opening ls)))
    go (Frames f) rest = ap (λ (t : Turn). served_from t ls) (no! _ _ e) ∙ by_frames s f ls (both (leb 1 f) (leb f 8)) rest
    go (Call k n) rest = ap (λ (t : Turn). served_from t ls) (no! _ _ e) ∙ yes! _ _ (eq-eqb 21 21 refl) ∙ rest
    go NotRead rest = rest

-- Of a whole session.
pub session_run : (scratch input : List ℕ) → served (session_outcomes scratch input) ≡ results (run_from scratch (opening (lines_from [] input)))
unfolding session_outcomes
session_run m input = unbegun_run (new_session m) (lines_from [] input) refl

-- Where the lent scratch has room for F frames, check 1 holds at every call of the run.
pub opened_ready : (f : ℕ) (scratch : List ℕ) → 1 ≤ f → f ≤ 8 → f * 4096 ≤ length scratch → Ready (fresh_machine f scratch)
opened_ready f m low high room = record { sound = sound_empty f low (omega arith); room = length-take-le (f * 4096) m room }
