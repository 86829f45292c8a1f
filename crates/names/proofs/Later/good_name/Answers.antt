use Rattle.model.specs.Names.{name_form, name_bytes, good_name}
use Rattle.names.proofs.Blanks.{rests}
use Rattle.names.proofs.Later.good_name.Goals as goal

pub returns-then-not-is_letter : goal.returns-then-not-is_letter
unfolding good_name name_form name_bytes
returns-then-not-is_letter c = search rests depth 12

pub returns-then-not-has : goal.returns-then-not-has
unfolding good_name name_form name_bytes
returns-then-not-has c = search rests depth 12

pub returns-then-not-has-2 : goal.returns-then-not-has-2
unfolding good_name name_form name_bytes
returns-then-not-has-2 c = search rests depth 12

pub returns-then-not-has-3 : goal.returns-then-not-has-3
unfolding good_name name_form name_bytes
returns-then-not-has-3 c = search rests depth 12

pub returns : goal.returns
unfolding good_name name_form name_bytes
returns c = search rests depth 12
