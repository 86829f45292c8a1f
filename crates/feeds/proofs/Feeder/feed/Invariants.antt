-- Each turn of the loop takes a line.
use Rattle.std.proofs.Common.{◌≡◌, ◌-◌, ◌≤◌, length}
use Rattle.feeds.specs.Feed.{feed_of}
use Rattle.feeds.specs.Fed.{Starts, Going}
use Rattle.feeds.proofs.Feeder.feed.Given as goal

abbrev pub invariant-loop-used : goal.invariant-loop-used
invariant-loop-used g l = record {
  going : Going (feed_of g.W.LineWork.kind g.W.LineWork.session g.W.LineWork.number l.initial.self l.initial.held l.initial.scratch) l.input l.initial.out l.used l.written (feed_of g.W.LineWork.kind g.W.LineWork.session g.W.LineWork.number l.self l.held l.scratch) l.out;
  ready : g.W.LineWork.IsReady l.self.work l.scratch;
  kept : length l.held ≡ 601;
  room : length l.out ≡ length l.initial.out;
  starts : Starts l.input l.used;
  most : l.self.have ≤ 601;
}

abbrev pub decreases-loop-used : goal.decreases-loop-used
decreases-loop-used g l = length l.input - l.used
