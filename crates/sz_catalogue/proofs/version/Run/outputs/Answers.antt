-- There is an output for each node, and there are at most 32 nodes.
use Rattle.std.proofs.Common.{ap, ◌∙◌, length, arith}
use Rattle.sz_spec.proofs.FlowOutputs.{well-formed_parts}
use Rattle.sz_catalogue.specs.Holdings.{Version}
use Rattle.sz_catalogue.proofs.Runs.{outputs-count}
use Rattle.sz_catalogue.proofs.version.Run.outputs.Goals as goal

pub returns-clause-count : goal.returns-clause-count
returns-clause-count c =
    ap length c.deref.ensures.value ∙ outputs-count c.self.inside.version c.self.inside.outputs.items c.self.invariant
    ∙ ap (λ (v : Version). length v.flow.nodes) c.self.view_is

pub returns-clause-few : goal.returns-clause-few
returns-clause-few c =
    omega (
      arith,
      ap length c.deref.ensures.value,
      outputs-count c.self.inside.version c.self.inside.outputs.items c.self.invariant,
      (well-formed_parts c.self.inside.version.flow c.self.invariant.right).1,
    )

pub returns-clause-run : goal.returns-clause-run
returns-clause-run c = rw (← c.self.view_is, c.deref.ensures.value) c.self.invariant
