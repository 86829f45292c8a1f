use Rattle.std.proofs.Common.{refl}
use Rattle.relay.proofs.Spoken.{replied_by}
use Rattle.relay.proofs.replied.Goals as goal

pub returns : goal.returns
returns c = replied_by _ _ refl c.newlines_in.ensures.0 refl
