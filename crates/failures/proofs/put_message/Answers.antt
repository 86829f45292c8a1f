use Rattle.failures.proofs.Message.{message_whole}
use Rattle.failures.proofs.put_message.Goals as goal

pub returns : goal.returns
returns c = search message_whole
