-- Paper 01, "What the statements owe": "For each input, sound or not, the statement of a public call determines the answer
-- number, the value, the tables after it, and every byte of scratch and buffer." Every public call promises the model's step,
-- the same that the claims about whole lists speak of.
use Rattle.std.specs.Prelude.{ℕ, List, ◌≡◌}
use Rattle.model.specs.declared.Answer.{Answer}
use Rattle.model.specs.declared.Call.{Call}
use Rattle.model.specs.declared.State.{State}
use Rattle.model.specs.Answers.{number as number_of, value as value_of}
use Rattle.model.specs.Step.{Outcome, step}

-- a call with a lent buffer, on tables and scratch
abbrev pub step_of : State → (scratch : List ℕ) → Call → (buffer : List ℕ) → Outcome
step_of s m k b = step (record { tables = s; scratch = m }) (record { call = k; buffer = b })

-- An answer, tables, scratch and buffer are those of an outcome. `number` and `value` are what the papers speak of, and `answer` is
-- all that a caller is handed. The two tell the whole of it (proofs/Answers): an answer has no room for anything else, such as a byte
-- of another guest's space.
pub record Promise (o : Outcome) (a : Answer) (s : State) (m b : List ℕ) : Type 0 where
  pub number : number_of a ≡ number_of o.answer
  pub value : value_of a ≡ value_of o.answer
  pub answer : a ≡ o.answer
  pub tables : s ≡ o.machine.tables
  pub scratch : m ≡ o.machine.scratch
  pub buffer : b ≡ o.buffer
