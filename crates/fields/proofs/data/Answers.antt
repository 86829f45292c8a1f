use Rattle.fields.proofs.Spelling.{hex_odd, hex_long, hex_other, hex_pairs}
use Rattle.fields.proofs.data.Goals as goal
use Rattle.fields.proofs.data.Goals.{then-f-eq1-via-then-f-eq1, then-f-eq1-via-else-f-eq1+then-f-gt514, then-f-eq1-via-else-f-eq1+else-f-gt514+then-not-all_hex}

pub returns-then-f-eq1 : goal.returns-then-f-eq1
returns-then-f-eq1 c = rw (← c.rest-f.ensures)
    (elim c.then-f-eq1.branch [
      | then-f-eq1-via-then-f-eq1 w ↦ search hex_odd
      | then-f-eq1-via-else-f-eq1+then-f-gt514 w ↦ search hex_long
      | then-f-eq1-via-else-f-eq1+else-f-gt514+then-not-all_hex w ↦ search hex_other
    ])

pub returns : goal.returns
returns c = rw (← c.rest-f.ensures) (search hex_pairs)
