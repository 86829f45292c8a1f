use mathlib.Core.Path.{refl}
use Rattle.lists.specs.Bytes.{over}
use Rattle.lists.specs.Choice.{both, either, choose}
use Rattle.lists.specs.Places.{all_from, every}
use Rattle.names.specs.Later.{later_byte}
use Rattle.names.proofs.Table.{table_of}
use borrow.Author.Rules.{rules}
use Rattle.names.proofs.later_table.Goals as goal

pub slice_bounds-table-end-2 : goal.slice_bounds-table-end-2
unfolding over
slice_bounds-table-end-2 c = rw c.put.ensures (search rules)

pub returns : goal.returns
unfolding every all_from both either choose later_byte over
returns c = rw (c.put-2.ensures, c.put.ensures) (table_of _ refl)
