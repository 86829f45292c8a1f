use Rattle.std.proofs.Common.{arith}
use Rattle.std.proofs.lemmas.Grind.{common_steps}
use Rattle.std.proofs.lemmas.Bool.Decides.{nat_tests}
use lib.Dec.{eqb}
use Rattle.lists.specs.Choice.{both}
use Rattle.model.specs.SoundTest.{absent_test}
use Rattle.settings.proofs.Registers.{every_list_all}
use Rattle.settings.proofs.absent_ok.Goals as goal

pub returns-then-c-eq0 : goal.returns-then-c-eq0
unfolding absent_test both
returns-then-c-eq0 c = let e = every_list_all (λ r. eqb r 0) c.args.c.registers 16 (omega arith) in grind (arith, nat_tests, common_steps)
