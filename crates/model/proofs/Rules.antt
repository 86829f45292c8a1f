-- For search in the proofs of the calls' code: a chain of checks, one at a time. Assumes nothing.
use Prim.Native.Nat.{ℕ, ◌-◌, ◌≤◌, ◌<◌}
use mathlib.Core.List.{List}
use native.Mathlib.Omega.{arith}
use Rattle.lists.proofs.Choice.{not_so, yes!, no! }
use Rattle.model.specs.declared.Guest.{Guest}
use Rattle.model.specs.Leaves.{caller_place}
use Rattle.model.specs.Searches.{enrolled}
use Rattle.model.specs.Tables.{guest_place}
use Rattle.model.proofs.Searches.{enrolled_guest}
use mathlib.Core.Bool.{Bool, true, false}
use mathlib.Core.Path.{◌≡◌, refl, ◌∙◌}
use Rattle.model.specs.declared.Answer.{Answer}
use Rattle.model.specs.declared.Reply.{Reply}
use Rattle.model.specs.declared.State.{State}
use Rattle.model.specs.Decision.{Decision, refuse, check}
use Rattle.model.specs.Replies.{reply, replied, Carried}
use Rattle.model.specs.Step.{scratch_after}

pub check_yes : {b : Bool} (a : Answer) (d : Decision) → b ≡ true → check b a d ≡ d
unfolding check
check_yes a d e = rw e

pub check_no : {b : Bool} (a : Answer) (d : Decision) → b ≡ false → check b a d ≡ refuse a
unfolding check
check_no a d e = rw e

-- a decision carried out: a refusal leaves the tables and scratch
pub refused : (s : State) (d : Decision) (a : Answer) (m : List ℕ) → d ≡ refuse a → Carried s d (reply a s) m m
unfolding replied scratch_after
refused s d a m e = rw e (record { reply = refl; scratch = refl })

pub stops : (s : State) (b : Bool) (a : Answer) (d : Decision) (m : List ℕ) → b ≡ false → Carried s (check b a d) (reply a s) m m
stops s b a d m e = refused s (check b a d) a m (check_no a d e)

pub goes : (r : Reply) (s : State) (b : Bool) (a : Answer) (d : Decision) (m m' : List ℕ) → b ≡ true → Carried s d r m m' → Carried s (check b a d) r m m'
goes r s b a d m m' e p = rw (check_yes a d e) p

pub ruleset steps = (stops, goes)

-- what the place of a caller tells
pub place_no : (r : ℕ) (gs : List Guest) (g : ℕ) → r ≡ caller_place gs g → 8 ≤ r → enrolled gs g ≡ false
unfolding caller_place
place_no r gs g p h = not_so (enrolled gs g) (λ e. let q : r ≡ g - 1 = p ∙ yes! _ _ e in let i = enrolled_guest gs g e in omega arith)

pub place_yes : (r : ℕ) (gs : List Guest) (g : ℕ) → r ≡ caller_place gs g → r < 8 → enrolled gs g ≡ true
unfolding caller_place
place_yes r gs g p h = not_false_true (enrolled gs g) (λ e. let q : r ≡ 8 = p ∙ no! _ _ e in omega arith)
  where
    not_false_true : (b : Bool) → (b ≡ false → ⊥) → b ≡ true
    not_false_true true n = refl
    not_false_true false n = absurd (n refl)

pub place_is : (r : ℕ) (gs : List Guest) (g : ℕ) → r ≡ caller_place gs g → r < 8 → r ≡ guest_place g
unfolding caller_place
place_is r gs g p h = p ∙ yes! _ _ (place_yes r gs g p h)

pub ruleset places = (place_no, place_yes)
