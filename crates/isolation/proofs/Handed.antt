-- What two runs have in common over the whole list, from `AllSameOutside` alone and not from how it was proved. Each law rests on
-- its own part of the claim, so that none can be left out of it: `answer` and `buffer`, `number` and `value`, `tables`, `bytes`,
-- `free`, and an outcome for each call. Assumes nothing.
use Prim.Native.Nat.{ℕ, suc}
use mathlib.Core.List.{List, [], ◌∷◌}
use mathlib.Core.Path.{◌≡◌, refl, sym, ap, ap₂, ◌∙◌}
use native.Mathlib.Decide.{ℕ_discrete}
use lib.ListN.{length}
use borrow.Author.Tests.{eq-eqb, ne_eqb}
use Rattle.lists.proofs.Choice.{yes!, no! }
use Rattle.model.specs.declared.Call.{Call}
use Rattle.model.specs.Step.{Machine, Issue, Outcome, step, run, after_run}
use Rattle.isolation.specs.Handed.{Handed, handed, handed_to, Away}
use Rattle.isolation.specs.History.{Event, event_of, recorded}
use Rattle.isolation.specs.TwoRuns.{EqualBut, EqualFree, StoresVaried, AllSameOutside}

-- one call more
handed_more : (g : ℕ) (i j : Issue) (is js : List Issue) (o p : Outcome) (os ps : List Outcome) → i.call ≡ j.call → (i.call.caller.guest ≡ g → handed o ≡ handed p)
    → handed_to g is os ≡ handed_to g js ps → handed_to g (i ∷ is) (o ∷ os) ≡ handed_to g (j ∷ js) (p ∷ ps)
unfolding handed_to
handed_more g i j is js o p os ps call here rest = go (ℕ_discrete i.call.caller.guest g)
  where
    caller : i.call.caller.guest ≡ j.call.caller.guest
    caller = ap (λ (k : Call). k.caller.guest) call

    go : Dec (i.call.caller.guest ≡ g) → handed_to g (i ∷ is) (o ∷ os) ≡ handed_to g (j ∷ js) (p ∷ ps)
    go (yes q) = yes! _ _ (eq-eqb _ g q) ∙ ap₂ (λ (y : Handed) (ys : List Handed). y ∷ ys) (here q) rest ∙ sym (yes! _ _ (eq-eqb _ g (sym caller ∙ q)))
    go (no q) = no! _ _ (ne_eqb _ g q) ∙ rest ∙ sym (no! _ _ (ne_eqb _ g (λ e. q (caller ∙ e))))

module _ (x : ℕ) where
  -- a guest that reaches the space by no call is handed the same: whole answers and buffers
  pub same_handed : (g : ℕ) (is js : List Issue) (m n : Machine) → StoresVaried x m is js → AllSameOutside x m is (run m is) (run n js) → Away g x m is → handed_to g is (run m is) ≡ handed_to g js (run n js)
  unfolding StoresVaried AllSameOutside run Away handed_to
  same_handed g [] [] m n v a away = refl
  same_handed g [] (j ∷ js) m n v a away = absurd v
  same_handed g (i ∷ is) [] m n v a away = absurd v
  same_handed g (i ∷ is) (j ∷ js) m n v a away =
      handed_more g i j is js (step m i) (step n j) _ _ v.0.call
      (λ q k. record { answer = a.0.answer k; buffer = a.0.buffer (away.0 q) k })
      (same_handed g is js (step m i).machine (step n j).machine v.1 a.1 away.1)

  -- both runs have one record, which holds the number and value of each call: so the second half speaks alike of both
  pub same_record : (is js : List Issue) (h : List Event) (m n : Machine) → StoresVaried x m is js → AllSameOutside x m is (run m is) (run n js) → recorded h m is ≡ recorded h n js
  unfolding StoresVaried AllSameOutside run recorded
  same_record [] [] h m n v a = refl
  same_record [] (j ∷ js) h m n v a = absurd v
  same_record (i ∷ is) [] h m n v a = absurd v
  same_record (i ∷ is) (j ∷ js) h m n v a =
      let here : event_of m i ≡ event_of n j = λ k. record { call = v.0.call k; number = a.0.number k; value = a.0.value k } in
      same_record is js (event_of m i ∷ h) (step m i).machine (step n j).machine v.1 a.1 ∙ ap (λ (e : Event). recorded (e ∷ h) (step n j).machine js) here

  -- runs that begin with equal tables end with equal tables
  pub same_tables : (is js : List Issue) (m n : Machine) → StoresVaried x m is js → AllSameOutside x m is (run m is) (run n js) → m.tables ≡ n.tables → (after_run m is).tables ≡ (after_run n js).tables
  unfolding StoresVaried AllSameOutside run after_run
  same_tables [] [] m n v a e = e
  same_tables [] (j ∷ js) m n v a e = absurd v
  same_tables (i ∷ is) [] m n v a e = absurd v
  same_tables (i ∷ is) (j ∷ js) m n v a e = same_tables is js (step m i).machine (step n j).machine v.1 a.1 a.0.tables

  -- runs that begin with equal bytes in every other live space end so
  pub same_bytes_lem : (is js : List Issue) (m n : Machine) → StoresVaried x m is js → AllSameOutside x m is (run m is) (run n js) → EqualBut x m.tables m.scratch n.scratch
      → EqualBut x (after_run m is).tables (after_run m is).scratch (after_run n js).scratch
  unfolding StoresVaried AllSameOutside run after_run
  same_bytes_lem [] [] m n v a e = e
  same_bytes_lem [] (j ∷ js) m n v a e = absurd v
  same_bytes_lem (i ∷ is) [] m n v a e = absurd v
  same_bytes_lem (i ∷ is) (j ∷ js) m n v a e = same_bytes_lem is js (step m i).machine (step n j).machine v.1 a.1 a.0.bytes

  -- and so do runs that begin with equal bytes in every free frame
  pub same_free : (is js : List Issue) (m n : Machine) → StoresVaried x m is js → AllSameOutside x m is (run m is) (run n js) → EqualFree m.tables m.scratch n.scratch
      → EqualFree (after_run m is).tables (after_run m is).scratch (after_run n js).scratch
  unfolding StoresVaried AllSameOutside run after_run
  same_free [] [] m n v a e = e
  same_free [] (j ∷ js) m n v a e = absurd v
  same_free (i ∷ is) [] m n v a e = absurd v
  same_free (i ∷ is) (j ∷ js) m n v a e = same_free is js (step m i).machine (step n j).machine v.1 a.1 a.0.free

  -- each run has one outcome for each call
  pub same_count : (is : List Issue) (os ps : List Outcome) (m : Machine) → AllSameOutside x m is os ps → (length os ≡ length is) × (length ps ≡ length is)
  unfolding AllSameOutside
  same_count [] [] [] m a = (refl, refl)
  same_count [] [] (p ∷ ps) m a = absurd a
  same_count [] (o ∷ os) ps m a = absurd a
  same_count (i ∷ is) [] ps m a = absurd a
  same_count (i ∷ is) (o ∷ os) [] m a = absurd a
  same_count (i ∷ is) (o ∷ os) (p ∷ ps) m a = let r = same_count is os ps o.machine a.1 in (ap suc r.0, ap suc r.1)
