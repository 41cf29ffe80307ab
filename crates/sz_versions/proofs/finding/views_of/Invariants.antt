-- The views so far are those of the first steps, and the run was lent for these.
use Rattle.std.proofs.Common.{◌≡◌, ◌≤◌, ◌*◌, map, take}
use Rattle.sz_query.specs.Views.{view_of}
use Rattle.sz_query.specs.Answers.{most_traced_of}
use Rattle.sz_versions.specs.Lending.{once_along}
use Rattle.sz_versions.specs.Along.{views_along}
use Rattle.sz_versions.proofs.finding.views_of.Given as goal

abbrev pub invariant-loop-step : goal.invariant-loop-step
invariant-loop-step l = record {
  views : map view_of l.views.items ≡ views_along l.version l.dir (take l.step-index l.path) l.fn.run;
  few : most_traced_of (map view_of l.views.items) ≤ l.step-index * 1048576;
  lent : l.run ≡ once_along l.version l.dir (take l.step-index l.path) l.fn.run;
}
