-- The sources so far are sources, so the first one that is none is that of the rest.
use Rattle.std.proofs.Common.{◌≡◌, drop}
use Rattle.sz_spec.specs.Flows.{source_fault}
use Rattle.sz_spec.proofs.flow.check_sources.Given as goal

abbrev pub invariant-loop-input : goal.invariant-loop-input
invariant-loop-input l =
    source_fault l.inputs l.number 0 l.from ≡ source_fault l.inputs l.number l.input (drop l.input l.from)
