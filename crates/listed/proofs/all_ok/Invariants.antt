use Prim.Native.Nat.{◌<◌}
use Rattle.lists.proofs.Loops.{Left}
use Rattle.listed.specs.Standings.{standings_with, entries_with}
use Rattle.listed.proofs.Passes.{entry_at, column_at, standing_at, standings_at}
use Rattle.listed.proofs.all_ok.Given as goal

abbrev pub invariant-loop-k : goal.invariant-loop-k
invariant-loop-k l = record {
  inside : l.i < 30;
  columns : Left (entries_with l.powers l.entries) (column_at l.powers l.entries) l.i 30;
  column : Left (column_at l.powers l.entries l.i) (entry_at l.powers l.entries l.i) l.k 8;
  standings : Left (standings_with l.powers l.entries) (standings_at l.powers l.entries) l.i 30;
  standing : Left (standings_at l.powers l.entries l.i) (standing_at l.powers l.entries l.i) l.k 8;
}

abbrev pub invariant-loop-i : goal.invariant-loop-i
invariant-loop-i l = record {
  columns : Left (entries_with l.powers l.entries) (column_at l.powers l.entries) l.i 30;
  standings : Left (standings_with l.powers l.entries) (standings_at l.powers l.entries) l.i 30;
}
