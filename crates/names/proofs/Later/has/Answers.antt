use Rattle.names.proofs.Table.{is_one}
use Rattle.names.proofs.Later.has.Goals as goal

pub returns : goal.returns
returns c = is_one _ _ (c.args.self.now.right.holds _ c.requires)
