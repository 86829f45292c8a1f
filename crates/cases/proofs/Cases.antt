-- The table of cases in one theorem. Each call is computed with check 1 left out; that it passes follows from the start state, which
-- is sound, as every call keeps that. Assumes nothing.
use Prim.Native.Nat.{◌*◌}
use mathlib.Core.Bool.{Bool, true}
use mathlib.Core.List.{List, [], ◌∷◌}
use mathlib.Core.Path.{◌≡◌, refl, ap, ap₂, ◌∙◌}
use native.Mathlib.Omega.{arith}
use lib.Dec.{eqb}
use borrow.Author.Tests.{eq-eqb}
use Rattle.lists.specs.Choice.{both}
use Rattle.lists.proofs.Choice.{both_intro}
use Rattle.model.specs.declared.Answer.TheVariants.{Unsound}
use Rattle.model.specs.declared.State.{State}
use Rattle.model.specs.Answers.{number, value}
use Rattle.model.specs.Calls.{judge, ready, decide}
use Rattle.model.specs.Decision.{Decision, after}
use Rattle.model.specs.Fresh.{empty_tables}
use Rattle.model.specs.Sound.{Sound}
use Rattle.model.proofs.Fresh.{sound_empty}
use Rattle.model.proofs.Rules.{check_yes}
use Rattle.model.proofs.Sound.{sound_kept}
use Rattle.model.proofs.SoundTest.{sound_decides}
use Rattle.cases.specs.Cases.{Trial, by_first, passes, Case, case, cases, all_pass, worn_tables, gap_tables}
use Rattle.cases.proofs.Decisions.{decisions, tests}
use Rattle.cases.proofs.Starts.{tables_test, sound_blank}

-- The table with check 1 left out.
abbrev answered : Trial → Decision → Bool
answered t d = both (eqb (number d.answer) t.answer) (eqb (value d.answer) t.value)

unfoldable judged : State → List Trial → Bool
judged s [] = true
judged s (t ∷ ts) =
    let d = judge s (by_first t.operation) t.room in
    both (answered t d) (judged (after s d) ts)

unfoldable all_judged : List Case → Bool
all_judged [] = true
all_judged (c ∷ cs) = both (judged c.start c.trials) (all_judged cs)

all_judged_lem : all_judged cases ≡ true
unfolding cases all_judged judged worn_tables gap_tables decisions
all_judged_lem = refl

-- From a sound state check 1 passes at every call.
passes_judged : (ts : List Trial) (s : State) → Sound s → passes s ts ≡ judged s ts
unfolding passes judged decide ready
passes_judged [] s ok = refl
passes_judged (t ∷ ts) s ok =
    let k = by_first t.operation in
    let one : decide s (s.frames * 4096) k t.room ≡ judge s k t.room = check_yes Unsound _ (both_intro _ _ ((sound_decides s).of ok) (eq-eqb (s.frames * 4096) _ refl)) in
    ap₂ both
    (ap (answered t) one)
    (passes_judged ts _ (sound_kept s (s.frames * 4096) k t.room ok) ∙ ap (λ (d : Decision). judged (after s d) ts) one)

unfoldable AllSound : List Case → Type 0
AllSound [] = Unit {0}
AllSound (c ∷ cs) = Sound c.start × AllSound cs

all_passed : (cs : List Case) → AllSound cs → all_pass cs ≡ all_judged cs
unfolding all_pass all_judged AllSound
all_passed [] ok = refl
all_passed (c ∷ cs) ok = ap₂ both (passes_judged c.trials c.start ok.0) (all_passed cs ok.1)

-- The start states.
sound_worn : Sound worn_tables
unfolding worn_tables tables_test tests
sound_worn = sound_blank worn_tables refl refl

sound_gap : Sound gap_tables
unfolding gap_tables tables_test tests
sound_gap = sound_blank gap_tables refl refl

sound_fresh : Sound (empty_tables 8 1)
sound_fresh = sound_empty 8 (omega arith) (omega arith)

sound_none : AllSound []
unfolding AllSound
sound_none = tt

sound_more : (s : State) (ts : List Trial) (cs : List Case) → Sound s → AllSound cs → AllSound (case s ts ∷ cs)
unfolding AllSound
sound_more s ts cs ok more = (ok, more)

ruleset starts = (sound_none, sound_more, sound_fresh, sound_worn, sound_gap)

sound_starts : AllSound cases
unfolding cases
sound_starts = search starts depth 25

pub cases_pass : all_pass cases ≡ true
cases_pass = all_passed cases sound_starts ∙ all_judged_lem
