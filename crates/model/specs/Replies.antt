-- What a call of the code returns of a decision, and leaves: the answer and the tables after it, and scratch.
use Rattle.std.specs.Prelude.{ℕ, List, [], ◌≡◌}
use Rattle.model.specs.declared.Answer.{Answer}
use Rattle.model.specs.declared.Call.{Call}
use Rattle.model.specs.declared.Caller.{Caller}
use Rattle.model.specs.declared.Operation.{Operation}
use Rattle.model.specs.declared.Reply.{Reply}
use Rattle.model.specs.declared.State.{State}
use Rattle.model.specs.Decision.{Decision, after as tables_after}
use Rattle.model.specs.Step.{scratch_after}

abbrev pub reply : Answer → State → Reply
reply a s = record { answer = a; state = s }

unfoldable pub replied : State → Decision → Reply
replied s d = reply d.answer (tables_after s d)

abbrev pub call_of : Caller → Operation → Call
call_of c o = record { caller = c; operation = o }

-- a decision that moves no byte of a buffer has been carried out: the reply, and scratch before and after
pub record Carried (s : State) (d : Decision) (r : Reply) (before after : List ℕ) : Type 0 where
  pub reply : r ≡ replied s d
  pub scratch : after ≡ scratch_after (tables_after s d) d.effect before []
