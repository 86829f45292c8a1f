use Rattle.driver.proofs.open.Goals as goal

pub returns : goal.returns
returns c = cc
