-- A flow has at most 32 nodes, and one output for each.
use Rattle.std.proofs.Common.{◌≡◌, ℕ, length, ap, sym, ◌∙◌, arith}
use Rattle.std.specs.Prelude.{Ok}
use Rattle.std.specs.Result.{result_map_both}
use Rattle.sz_spec.specs.FlowShapes.{output_shapes}
use Rattle.sz_spec.proofs.FlowOutputs.{well-formed_parts}
use Rattle.sz_spec.proofs.FlowShapes.{outputs-length}
use Rattle.sz_catalogue.proofs.catalogue.Catalogue.refusal_of_shapes.Goals as goal

pub refusal_of_outputs-requires : goal.refusal_of_outputs-requires
refusal_of_outputs-requires c =
    let found : output_shapes c.args.flow.now c.args.base.now ≡ Ok c.in-Ok.outputs.items =
    sym c.in_ok-node.ensures ∙ ap (result_map_both (λ v. v.items) (λ (n : ℕ). n)) c.in-Ok.is in
    omega (
      arith,
      ap length c.deref.ensures.value,
      outputs-length c.args.flow.now c.args.base.now c.in-Ok.outputs.items found,
      (well-formed_parts c.args.flow.now c.requires.right).1,
    )
