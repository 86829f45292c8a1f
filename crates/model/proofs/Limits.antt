-- The leftmost argument outside its limits decides; where there is none, the call's own checks do. Assumes nothing.
use Prim.Native.Nat.{ℕ, ◌≤◌}
use mathlib.Core.Bool.{Bool, true, false}
use mathlib.Core.List.{List, [], ◌∷◌}
use mathlib.Core.Path.{◌≡◌, refl, ◌∙◌}
use Rattle.lists.specs.Decides.{Decides}
use Rattle.lists.proofs.Choice.{true_false, not_so}
use Rattle.lists.proofs.Decides.{d_le, d_eq, d_is, d_not, d_both}
use Rattle.model.specs.declared.Answer.TheVariants.{Unsound, BadCaller, Limit as OutsideLimit}
use Rattle.model.specs.declared.Caller.{Caller}
use Rattle.model.specs.declared.Call.{Call}
use Rattle.model.specs.declared.Guest.{Guest}
use Rattle.model.specs.declared.Operation.{Operation}
use Rattle.model.specs.declared.Operation.TheVariants.{Enrol, Create, Destroy, Permit, Isolate, Query, Add, Remove, Load, Mode, Fetch, Store, Reset, Key, Block}
use Rattle.model.specs.declared.State.{State}
use Rattle.model.specs.Answers.{limit_number, number, value}
use Rattle.model.specs.Arguments.{Argument, arguments, check_all, good_pages}
use Rattle.model.specs.Calls.{perform, good_caller, judge, ready, decide}
use Rattle.model.specs.Decision.{Decision}
use Rattle.model.specs.Limits.{Limit, limits, AllMet, Leftmost, here, further, RefusedFor, LeftmostDecides}
use Rattle.model.specs.Searches.{enrolled}
use Rattle.model.proofs.Names.{name_decides}
use Rattle.model.proofs.Rules.{check_yes, check_no}

-- arguments and limits, one by one: an argument has its limit's number and value, and fits exactly where the limit is met
data Have : List Argument → List Limit → Type 1 where
  none : Have [] []
  more : {a : Argument} {args : List Argument} {l : Limit} {ls : List Limit} → limit_number a.kind ≡ l.number → a.place ≡ l.value → Decides a.fits l.met
      → Have args ls → Have (a ∷ args) (l ∷ ls)

d_pages : (n : ℕ) → Decides (good_pages n) ((1 ≤ n) × (n ≤ 512))
d_pages n = d_both (d_le 1 n) (d_le n 512)

have_limits : (gs : List Guest) (c : Caller) (k : Operation) (n : ℕ) → Have (arguments gs c k n) (limits gs c k n)
unfolding arguments limit_number
have_limits gs c (Enrol x) n =
    more refl refl (d_pages x.pages)
    (more refl refl (d_le x.allowance 31)
    (more refl refl (d_le x.share 1)
    (more refl refl (d_both (d_le 1 x.list) (d_le x.list 30))
    (more refl refl (d_le x.asf 1) none))))
have_limits gs c (Create name pages) n = more refl refl (name_decides name) (more refl refl (d_pages pages) none)
have_limits gs c (Destroy id) n = none
have_limits gs c (Permit id guest right) n = more refl refl (d_both (d_is (enrolled gs guest)) (d_not (d_eq guest c.guest))) none
have_limits gs c (Isolate id) n = none
have_limits gs c (Query owner name) n = more refl refl (d_both (d_le 1 owner) (d_le owner 8)) (more refl refl (name_decides name) none)
have_limits gs c (Add id right) n = none
have_limits gs c (Remove token) n = none
have_limits gs c (Load register value) n = more refl refl (d_le register 15) none
have_limits gs c (Mode m) n = more refl refl (d_le m 1) none
have_limits gs c (Fetch register address) n = more refl refl (d_le register 15) (more refl refl (d_both (d_le 1 n) (d_le n 256)) none)
have_limits gs c (Store register address) n = more refl refl (d_le register 15) (more refl refl (d_both (d_le 1 n) (d_le n 256)) none)
have_limits gs c Reset n = none
have_limits gs c (Key key) n = more refl refl (d_le key 15) none
have_limits gs c (Block id address key mark) n = more refl refl (d_le key 15) (more refl refl (d_le mark 1) none)

-- the chain of the arguments' checks, against the limits
leftmost_refuses : {args : List Argument} {ls : List Limit} {l : Limit} (d : Decision) → Have args ls → Leftmost l ls → RefusedFor l (check_all args d)
unfolding check_all number value
leftmost_refuses d (more {a} {args} n p f rest) (here out) =
    rw (check_no (OutsideLimit a.kind a.place) (check_all args d) (not_so a.fits (λ e. out (f.to e)))) (record { number = n; value = p; refused = refl })
leftmost_refuses d (more {a} {args} n p f rest) (further met left) =
    rw (check_yes (OutsideLimit a.kind a.place) (check_all args d) (f.of met)) (leftmost_refuses d rest left)
leftmost_refuses {l = l} d none x4 = elim x4 [ ]

all_met_goes : {args : List Argument} {ls : List Limit} (d : Decision) → Have args ls → AllMet ls → check_all args d ≡ d
unfolding check_all
all_met_goes d none met = refl
all_met_goes d (more {a} {args} n p f rest) met =
    check_yes (OutsideLimit a.kind a.place) (check_all args d) (f.of met.0) ∙ all_met_goes d rest met.1

-- where not all are met, one is the leftmost that isn't
leftmost_of : {args : List Argument} {ls : List Limit} → Have args ls → (AllMet ls → ⊥) → (l : Limit) × Leftmost l ls
leftmost_of none out = absurd (out tt)
leftmost_of (more {a} {args} {l} {ls} n p f rest) out = go a.fits refl (λ h. leftmost_of rest (λ met. out (h, met)))
  where
    go : (b : Bool) → a.fits ≡ b → (l.met → (x : Limit) × Leftmost x ls) → (x : Limit) × Leftmost x (l ∷ ls)
    go true e next = let q = next (f.to e) in (q.0, further (f.to e) q.1)
    go false e next = (l, here (λ met. true_false (f.of met) e))

pub some_leftmost : (gs : List Guest) (c : Caller) (k : Operation) (n : ℕ) → (AllMet (limits gs c k n) → ⊥) → (l : Limit) × Leftmost l (limits gs c k n)
some_leftmost gs c k n = leftmost_of (have_limits gs c k n)

-- once the checks 1 and 2 have passed
passed : (s : State) (m : ℕ) (k : Call) (n : ℕ) → ready s m ≡ true → good_caller s k.caller k.operation ≡ true
    → decide s m k n ≡ check_all (arguments s.guests k.caller k.operation n) (perform s k.caller k.operation n)
unfolding decide judge
passed s m k n e1 e2 = check_yes Unsound _ e1 ∙ check_yes BadCaller _ e2

pub leftmost_decides : LeftmostDecides
leftmost_decides s m k n e1 e2 l left = rw (passed s m k n e1 e2) (leftmost_refuses _ (have_limits s.guests k.caller k.operation n) left)

pub inside_limits : (s : State) (m : ℕ) (k : Call) (n : ℕ) → ready s m ≡ true → good_caller s k.caller k.operation ≡ true
    → AllMet (limits s.guests k.caller k.operation n) → decide s m k n ≡ perform s k.caller k.operation n
inside_limits s m k n e1 e2 met = passed s m k n e1 e2 ∙ all_met_goes _ (have_limits s.guests k.caller k.operation n) met
