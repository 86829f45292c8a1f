-- Every call ends in one of two ways: it is refused with an answer that its row in paper 01 lists, and nothing changes; or it
-- is done, with all that answer 0 implies.
use Rattle.std.specs.Prelude.{ℕ, Bool, true, false, List, [], ◌∷◌, ◌≡◌, eqb}
use Rattle.lists.specs.Choice.{either}
use Rattle.model.specs.declared.Answer.{Answer}
use Rattle.model.specs.declared.Operation.{Operation}
use Rattle.model.specs.declared.Operation.TheVariants.{Enrol, Create, Destroy, Permit, Isolate, Query, Add, Remove, Load, Mode, Fetch, Store, Reset, Key, Block}
use Rattle.model.specs.Answers.{number}
use Rattle.model.specs.Decision.{Decision, refuse}

-- What each call may answer after the checks 1 and 2, in the paper's order. The paper's row for FETCH and STORE lists 18, which a
-- fetch never gives. Paper 02, M-100: "22, key protection, in FETCH and STORE after 18"; "BLOCK then 5, 6, 17"; M-102: for the
-- arguments, from left to right, "31 to 40"; ENROL has 34 twice, for share and for ASF.
unfoldable pub own_row : Operation → List ℕ
own_row (Enrol x) = 31 ∷ 32 ∷ 34 ∷ 33 ∷ 34 ∷ 9 ∷ 11 ∷ 10 ∷ []
own_row (Create name pages) = 35 ∷ 31 ∷ 4 ∷ 8 ∷ 9 ∷ 11 ∷ 10 ∷ []
own_row (Destroy id) = 5 ∷ 6 ∷ 20 ∷ []
own_row (Permit id guest right) = 38 ∷ 5 ∷ 6 ∷ 7 ∷ []
own_row (Isolate id) = 5 ∷ 6 ∷ []
own_row (Query owner name) = 38 ∷ 35 ∷ 5 ∷ []
own_row (Add id right) = 5 ∷ 12 ∷ 13 ∷ []
own_row (Remove token) = 14 ∷ 15 ∷ []
own_row (Load register value) = 36 ∷ []
own_row (Mode m) = 34 ∷ 19 ∷ []
own_row (Fetch register address) = 36 ∷ 37 ∷ 14 ∷ 15 ∷ 16 ∷ 17 ∷ 22 ∷ []
own_row (Store register address) = 36 ∷ 37 ∷ 14 ∷ 15 ∷ 16 ∷ 17 ∷ 18 ∷ 22 ∷ []
own_row Reset = []
own_row (Key key) = 40 ∷ []
own_row (Block id address key mark) = 40 ∷ 34 ∷ 5 ∷ 6 ∷ 17 ∷ []

-- "All check 1, then 2 first."
unfoldable pub row : Operation → List ℕ
row k = 0 ∷ 1 ∷ 2 ∷ own_row k

unfoldable pub listed : ℕ → List ℕ → Bool
listed n [] = false
listed n (k ∷ ks) = either (eqb n k) (listed n ks)

pub record Refusal (answers : List ℕ) (d : Decision) : Type 0 where
  pub answer : Answer
  pub not_done : eqb (number answer) 0 ≡ false
  pub listed : listed (number answer) answers ≡ true
  pub is : d ≡ refuse answer

pub data Verdict (answers : List ℕ) (Good : Decision → Type 0) (d : Decision) : Type 0 where
  refused : Refusal answers d → Verdict answers Good d
  granted : Good d → Verdict answers Good d
