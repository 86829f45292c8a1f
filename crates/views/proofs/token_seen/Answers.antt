use Rattle.views.proofs.Told.{token_own, token_none, token_loaded}
use Rattle.views.proofs.token_seen.Goals as goal

pub returns-then-register-gt15 : goal.returns-then-register-gt15
returns-then-register-gt15 c = search token_none

pub returns-in-Token : goal.returns-in-Token
returns-in-Token c = search (token_own, token_loaded)

pub returns-else-register-gt15 : goal.returns-else-register-gt15
returns-else-register-gt15 c = search (token_own, token_loaded)
