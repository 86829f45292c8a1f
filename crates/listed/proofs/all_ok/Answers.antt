use mathlib.Core.Path.{sym, ◌∙◌}
use native.Mathlib.Omega.{arith}
use Rattle.lists.proofs.Loops.{left_go, lefts}
use Rattle.listed.specs.Standings.{standings_with, entries_with}
use Rattle.listed.proofs.all_ok.Goals as goal

pub loop-i-init : goal.loop-i-init
unfolding entries_with standings_with
loop-i-init c = search lefts depth 6

pub loop-k-init : goal.loop-k-init
loop-k-init c = search lefts depth 6

pub returns-then-not-entry_ok : goal.returns-then-not-entry_ok
returns-then-not-entry_ok c = record { entries = search lefts depth 8; standings = search lefts depth 8 }

pub loop-k-preserved : goal.loop-k-preserved
loop-k-preserved c =
    let i = c.loop-k.invariant in
    record {
      inside = i.inside;
      columns = i.columns;
      column = left_go _ _ _ _ i.column (omega arith) (sym c.entry_ok.ensures.entry ∙ c.if-not-entry_ok.false);
      standings = i.standings;
      standing = left_go _ _ _ _ i.standing (omega arith) (sym c.entry_ok.ensures.standing ∙ c.if-not-entry_ok.false);
    }

pub loop-i-preserved : goal.loop-i-preserved
loop-i-preserved c = record { columns = search lefts depth 6; standings = search lefts depth 6 }

pub returns : goal.returns
returns c = record { entries = search lefts depth 6; standings = search lefts depth 6 }
