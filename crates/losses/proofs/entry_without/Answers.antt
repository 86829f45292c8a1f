use Rattle.losses.proofs.Looks.{without_slot}
use Rattle.losses.proofs.entry_without.Goals as goal

pub returns : goal.returns
returns c = search without_slot
