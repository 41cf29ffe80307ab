-- Between two reads every whole line so far has its reply said; each turn takes at least one byte.
use Rattle.std.proofs.Common.{◌≡◌, None, ◌≤◌, ◌+◌, ◌-◌}
use Rattle.sz_feed.specs.Serving.{Answered}
use Rattle.sz_feed.specs.Disks.{StaysFinding, FoundInPart}
use Rattle.sz_feed.specs.Running.{IsBeside, StaysBeside}
use Rattle.sz_feed.proofs.Sources.{FindsRead}
use Rattle.sz_session.specs.Statuses.{NoneRose}
use Rattle.sz_session.proofs.serving.read_all.Given as goal

abbrev pub ghost-take_turn : goal.ghost-take_turn
ghost-take_turn g a = g.opening

abbrev pub invariant-chunks : goal.invariant-chunks
invariant-chunks g l = record {
  within : l.total ≤ l.limit;
  number : l.feed.number ≤ l.total + 1;
  counted : NoneRose g.T.Station (g.S.Source.faults l.initial.source) (g.S.Source.faults l.source) l.initial.station
      l.station;
  disk : l.initial.feed.end ≡ None → StaysFinding g.T.Station
      (FoundInPart g.opening.held g.opening.left g.opening.said) l.initial.station l.station;
  goes : StaysBeside g.T.Station l.initial.feed l.feed l.initial.station l.station;
  log : IsBeside g.T.Station l.feed l.station;
  plain : l.initial.feed.end ≡ None → l.feed.end ≡ None;
  found : FindsRead g.T.Station g.opening.held l.initial.feed.end g.opening.left l.total l.initial.station l.station;
  answered : Answered g.opening.held g.opening.left (g.S.Source.left l.source) g.opening.said
      (g.T.Station.said l.station) l.feed l.total;
}

abbrev pub decreases-chunks : goal.decreases-chunks
decreases-chunks g l = l.limit - l.total
