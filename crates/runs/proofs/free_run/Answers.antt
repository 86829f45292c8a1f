use Rattle.runs.proofs.Runs.{runs}
use Rattle.runs.proofs.free_run.Goals as goal

pub returns-then-frames-pages : goal.returns-then-frames-pages
returns-then-frames-pages c = search runs

pub loop-clear-init : goal.loop-clear-init
loop-clear-init c = search runs

pub returns-then-last-first : goal.returns-then-last-first
returns-then-last-first c = search runs

pub loop-clear-smaller-then-meets : goal.loop-clear-smaller-then-meets
loop-clear-smaller-then-meets c = search runs

pub loop-clear-preserved-then-meets : goal.loop-clear-preserved-then-meets
loop-clear-preserved-then-meets c = search runs

pub loop-clear-preserved : goal.loop-clear-preserved
loop-clear-preserved c = search runs

pub returns : goal.returns
returns c = search runs
