-- The strategies so far are those told for the first steps.
use Rattle.std.proofs.Common.{◌≡◌, map, take}
use Rattle.sz_versions.specs.Views.{strategy_told}
use Rattle.sz_commands.proofs.session.strategies_told.Given as goal

abbrev pub invariant-loop-step : goal.invariant-loop-step
invariant-loop-step l = l.told.items ≡ map strategy_told (take l.step-index l.used)
