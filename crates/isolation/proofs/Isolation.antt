-- The paper's own claim of the first half, as an instance of the general one; and what it says of keys. Assumes nothing.
use Prim.Native.Nat.{ℕ, ◌/◌}
use mathlib.Core.Bool.{Bool, false}
use mathlib.Core.List.{List, [], ◌∷◌}
use mathlib.Core.Path.{refl, sym, ap}
use lib.Dec.{eqb}
use borrow.Author.Tests.{eqb-true, eq-eqb, ne_eqb}
use Rattle.model.specs.declared.State.{State}
use Rattle.model.specs.Calls.{access_key}
use Rattle.model.specs.Frames.{layout}
use Rattle.model.specs.Sound.{Live}
use Rattle.model.specs.Step.{Machine, Ready, Issue, Outcome, step, run}
use Rattle.model.specs.Tables.{space_at}
use Rattle.model.proofs.Addresses.{place_has}
use Rattle.model.proofs.Clearing.{frame_agree}
use Rattle.model.proofs.Sound.{ready_kept}
use Rattle.isolation.specs.KeysAgree.{AllSameKeys, KeysAgree}
use Rattle.isolation.specs.TwoRuns.{EqualOutside, Alike, Turn, Varied, SameCall, SameRuns, OutsideSpace, StoresVaried, SameOutside, AllSameOutside, Isolation}
use Rattle.isolation.proofs.Outside.{free_outside, equal_live}
use Rattle.isolation.proofs.TwoRuns.{two_runs}

-- the set of one space
abbrev just : ℕ → ℕ → Bool
just x = eqb x

-- the set of no frame
abbrev nowhere : ℕ → Bool
nowhere f = false

-- scratch that is equal outside one live space
outside_equal : (s : State) (u : ℕ) (m₁ m₂ : List ℕ) → Live s.spaces u → OutsideSpace s u m₁ m₂ → EqualOutside (just (space_at s.spaces u).id) nowhere s m₁ m₂
outside_equal s u m₁ m₂ live o p out =
    o.bytes p (λ a b e. out.live u live (eq-eqb (space_at s.spaces u).id _ refl) (rw (← e) (place_has s.spaces (layout s) u a b)))

-- the two lists as turns with that one set throughout
turns : (id : ℕ) → (first second : List Issue) → List Turn
turns x [] js = []
turns x (i ∷ is) [] = []
turns x (i ∷ is) (j ∷ js) = record { first = i; second = j; changed = just x } ∷ turns x is js

turns_varied : (x : ℕ) (m : Machine) (first second : List Issue) → StoresVaried x m first second → Varied (just x) m (turns x first second)
unfolding turns StoresVaried Varied
turns_varied x m [] js v = tt
turns_varied x m (i ∷ is) [] v = absurd v
turns_varied x m (i ∷ is) (j ∷ js) v = (
  (λ _ e. e),
  record {
    call = v.0.call;
    lengths = sym v.0.long;
    same = λ away. v.0.same (λ r. away (record { id = x; reaches = r.1; inside = eq-eqb x x refl }));
  },
  turns_varied x (step m i).machine is js v.1,
)

same_outside : (x : ℕ) (m₁ m₂ : Machine) (i j : Issue) → Ready (step m₁ i).machine → SameCall (just x) nowhere m₁ m₂ i j → SameOutside x m₁ i (step m₁ i) (step m₂ j)
same_outside x m₁ m₂ i j ready c = record {
  number = c.number;
  value = c.value;
  answer = c.answer;
  tables = c.alike.tables;
  bytes = λ u l ne. equal_live (just x) nowhere (step m₁ i).machine.tables ready.sound u l (ne_eqb x _ (λ e. ne (sym e))) _ _ c.alike.bytes;
  free = λ f free. frame_agree f _ _ c.alike.room (λ p e. c.alike.bytes p (free_outside (just x) (step m₁ i).machine.tables ready.sound (p / 4096) (rw e free)));
  buffer = λ away. c.buffer (λ r. away (rw (← (eqb-true x r.id r.inside)) at r.reaches));
}

all_same : (x : ℕ) (first second : List Issue) (m₁ m₂ : Machine) → Ready m₁ → StoresVaried x m₁ first second → SameRuns nowhere m₁ m₂ (turns x first second)
    → AllSameOutside x m₁ first (run m₁ first) (run m₂ second)
unfolding turns SameRuns AllSameOutside StoresVaried run
all_same x [] [] m₁ m₂ ready v r = tt
all_same x [] (j ∷ js) m₁ m₂ ready v r = v
all_same x (i ∷ is) [] m₁ m₂ ready v r = v
all_same x (i ∷ is) (j ∷ js) m₁ m₂ ready v r =
    let after = ready_kept m₁ i ready in
    (same_outside x m₁ m₂ i j after r.0, all_same x is js (step m₁ i).machine (step m₂ j).machine after v.1 r.1)

pub isolation : Isolation
isolation s scratch₁ scratch₂ u first second ready live outside varied =
    let x = (space_at s.spaces u).id in
    let m₁ : Machine = record { tables = s; scratch = scratch₁ } in
    let m₂ : Machine = record { tables = s; scratch = scratch₂ } in
    let alike : Alike (just x) nowhere m₁ m₂ = record { tables = refl; room = outside.room; bytes = outside_equal s u scratch₁ scratch₂ live outside } in
    all_same x first second m₁ m₂ ready varied (two_runs (just x) nowhere (turns x first second) m₁ m₂ ready alike (turns_varied x m₁ first second varied))

-- Keys are in the tables, and the tables are equal.
all_same_keys : (x : ℕ) (is : List Issue) (os ps : List Outcome) (m : Machine) → AllSameOutside x m is os ps → AllSameKeys os ps
unfolding AllSameOutside AllSameKeys
all_same_keys x [] [] [] m a = tt
all_same_keys x [] [] (p ∷ ps) m a = a
all_same_keys x [] (o ∷ os) ps m a = absurd a
all_same_keys x (i ∷ is) [] ps m a = absurd a
all_same_keys x (i ∷ is) (o ∷ os) [] m a = a
all_same_keys x (i ∷ is) (o ∷ os) (p ∷ ps) m a = (
  record { cells = ap (λ (t : State). t.cells) a.0.tables; access = λ c. ap (λ (t : State). access_key t c) a.0.tables },
  all_same_keys x is os ps o.machine a.1,
)

pub keys_agree : KeysAgree
keys_agree s scratch₁ scratch₂ u first second ready live outside varied =
    all_same_keys _ first _ _ _ (isolation s scratch₁ scratch₂ u first second ready live outside varied)
