-- What a call, handed over as a value, has come to: the reply of the decision on it, and every byte of scratch and of the buffer.
use Rattle.std.specs.Prelude.{ℕ, List, ◌≡◌, length}
use Rattle.model.specs.declared.Call.{Call}
use Rattle.model.specs.declared.Reply.{Reply}
use Rattle.model.specs.declared.State.{State}
use Rattle.model.specs.Calls.{judge}
use Rattle.model.specs.Leaves.{scratch_judged, buffer_judged}
use Rattle.model.specs.Replies.{replied}

pub record Served (s : State) (k : Call) (r : Reply) (m b m' b' : List ℕ) : Type 0 where
  pub reply : r ≡ replied s (judge s k (length b))
  pub scratch : m' ≡ scratch_judged s k m b
  pub buffer : b' ≡ buffer_judged s k m b
