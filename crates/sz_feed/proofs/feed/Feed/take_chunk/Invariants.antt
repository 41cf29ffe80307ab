-- The bytes up to where the next line begins were taken in.
use Rattle.std.proofs.Common.{◌≤◌, ◌+◌, ◌-◌, [], length, take}
use Rattle.sz_feed.specs.Moments.{cut_after}
use Rattle.sz_feed.specs.Waiting.{Waits}
use Rattle.sz_feed.specs.Running.{IsBeside}
use Rattle.sz_feed.specs.Calls.{IsAnswered, AreWaiting}
use Rattle.sz_feed.proofs.Calls.{went_on}
use Rattle.sz_feed.proofs.feed.Feed.take_chunk.Given as goal

abbrev pub invariant-loop-at : goal.invariant-loop-at
invariant-loop-at g l = record {
  within : l.start ≤ length l.chunk;
  waits : Waits (g.T.Station.said l.initial.station) (g.T.Station.said l.station) l.initial.self l.self
      (take l.start l.chunk) l.waiting.items;
  waiting : AreWaiting l.self.end l.waiting.items;
  number : l.self.number ≤ l.initial.self.number + l.start;
  log : IsBeside g.T.Station l.self l.station;
  answered : IsAnswered g.T.Station went_on l.initial.self l.self []
      (cut_after l.initial.self (take l.start l.chunk)).whole l.initial.station l.station;
}

abbrev pub decreases-loop-at : goal.decreases-loop-at
decreases-loop-at g l = length l.chunk - l.start
