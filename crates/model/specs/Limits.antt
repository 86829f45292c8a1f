-- Paper 02, M-102: "The value is the argument's place, counted from 1 with the caller as 1; where several are wrong, the leftmost".
-- One law over all calls, with each limit in the papers' numbers.
use Rattle.std.specs.Prelude.{ℕ, ◌≤◌, true, List, [], ◌∷◌, ◌≢◌, ◌≡◌}
use Rattle.model.specs.declared.Call.{Call}
use Rattle.model.specs.declared.Caller.{Caller}
use Rattle.model.specs.declared.Guest.{Guest}
use Rattle.model.specs.declared.Operation.{Operation}
use Rattle.model.specs.declared.Operation.TheVariants.{Enrol, Create, Destroy, Permit, Isolate, Query, Add, Remove, Load, Mode, Fetch, Store, Reset, Key, Block}
use Rattle.model.specs.declared.State.{State}
use Rattle.model.specs.Answers.{number as number_of, value as value_of}
use Rattle.model.specs.Calls.{good_caller, ready, decide}
use Rattle.model.specs.Decision.{Decision, refuse}
use Rattle.model.specs.NameText.{NameText}
use Rattle.model.specs.Searches.{enrolled}

-- what an argument is to meet, and the number and the value of the answer where it doesn't
pub record Limit : Type 1 where
  pub number : ℕ
  pub value : ℕ
  pub met : Type 0

abbrev pub limit : (number value : ℕ) → Type 0 → Limit
limit n v P = record { number = n; value = v; met = P }

-- the limits of each call's arguments, from left to right
abbrev pub limits : List Guest → Caller → Operation → (buffer : ℕ) → List Limit
limits gs c (Enrol x) n =
    limit 31 2 ((1 ≤ x.pages) × (x.pages ≤ 512))
    ∷ limit 32 3 (x.allowance ≤ 31)
    ∷ limit 34 4 (x.share ≤ 1)
    ∷ limit 33 5 ((1 ≤ x.list) × (x.list ≤ 30))
    ∷ limit 34 6 (x.asf ≤ 1)
    ∷ []
limits gs c (Create name pages) n = limit 35 2 (NameText name) ∷ limit 31 3 ((1 ≤ pages) × (pages ≤ 512)) ∷ []
limits gs c (Destroy id) n = []
limits gs c (Permit id guest right) n = limit 38 3 ((enrolled gs guest ≡ true) × (guest ≢ c.guest)) ∷ []
limits gs c (Isolate id) n = []
limits gs c (Query owner name) n = limit 38 2 ((1 ≤ owner) × (owner ≤ 8)) ∷ limit 35 3 (NameText name) ∷ []
limits gs c (Add id right) n = []
limits gs c (Remove token) n = []
limits gs c (Load register value) n = limit 36 2 (register ≤ 15) ∷ []
limits gs c (Mode m) n = limit 34 2 (m ≤ 1) ∷ []
limits gs c (Fetch register address) n = limit 36 2 (register ≤ 15) ∷ limit 37 4 ((1 ≤ n) × (n ≤ 256)) ∷ []
limits gs c (Store register address) n = limit 36 2 (register ≤ 15) ∷ limit 37 4 ((1 ≤ n) × (n ≤ 256)) ∷ []
limits gs c Reset n = []
limits gs c (Key key) n = limit 40 2 (key ≤ 15) ∷ []
limits gs c (Block id address key mark) n = limit 40 4 (key ≤ 15) ∷ limit 34 5 (mark ≤ 1) ∷ []

abbrev pub AllMet : List Limit → Type 0
AllMet [] = Unit {0}
AllMet (l ∷ ls) = l.met × AllMet ls

-- l is the first limit of the list that isn't met; nothing is said of those after it
pub data Leftmost (l : Limit) : List Limit → Type 1 where
  here : {after : List Limit} → (l.met → ⊥) → Leftmost l (l ∷ after)
  further : {before : Limit} {after : List Limit} → before.met → Leftmost l after → Leftmost l (before ∷ after)

-- the call is refused for the limit l
pub record RefusedFor (l : Limit) (d : Decision) : Type 0 where
  pub number : number_of d.answer ≡ l.number
  pub value : value_of d.answer ≡ l.value
  pub refused : d ≡ refuse d.answer

-- Once the checks 1 and 2 pass, the leftmost limit that isn't met decides, whatever else is wrong.
abbrev pub LeftmostDecides : Type 1
LeftmostDecides =
    (s : State) (m : ℕ) (k : Call) (n : ℕ) → ready s m ≡ true → good_caller s k.caller k.operation ≡ true
    → (l : Limit) → Leftmost l (limits s.guests k.caller k.operation n) → RefusedFor l (decide s m k n)
