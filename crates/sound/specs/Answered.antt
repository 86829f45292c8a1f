-- What a call on a sound state comes to: its answer, and the state after it, where the state before it stood.
use Rattle.std.specs.Prelude.{ℕ, List, ◌≡◌}
use Rattle.model.specs.declared.Answer.{Answer}
use Rattle.model.specs.declared.Call.{Call}
use Rattle.model.specs.Calls.{judge}
use Rattle.model.specs.Replies.{reply, replied, Carried}
use Rattle.sound.specs.declared.Sound.{Sound}

-- a call on the state alone
pub record Answered (before : Sound) (k : Call) (a : Answer) (after : Sound) : Type 0 where
  pub same_state : after.state.ghost_name ≡ before.state.ghost_name
  pub reply : reply a after.state.now ≡ replied before.state.now (judge before.state.now k 0)

-- a call that fills frames with zeros, with scratch before and after it
pub record AnsweredOver (before : Sound) (k : Call) (a : Answer) (after : Sound) (m m' : List ℕ) : Type 0 where
  pub same_state : after.state.ghost_name ≡ before.state.ghost_name
  pub carried : Carried before.state.now (judge before.state.now k 0) (reply a after.state.now) m m'
