-- The numbers so far are those of the first steps.
use Rattle.std.proofs.Common.{◌≡◌, map, take}
use Rattle.sz_spec.specs.Paths.{Step}
use Rattle.sz_versions.proofs.finding.inputs_of.Given as goal

abbrev pub invariant-loop-step : goal.invariant-loop-step
invariant-loop-step l = l.inputs.items ≡ map (λ (s : Step). s.input) (take l.step-index l.path)
