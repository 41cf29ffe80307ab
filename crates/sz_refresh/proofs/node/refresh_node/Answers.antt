-- What the node takes has the shapes of its old run, and its affected cells are of the shape of its output.
use Rattle.std.proofs.Common.{◌≡◌, List, Ok, map, sym, ap, ap₂, subst, ◌∙◌}
use Rattle.std.specs.Arc.{arc_value}
use Rattle.sz_cells.specs.Cells.{Cells}
use Rattle.sz_spec.specs.declared.op.Op.{Op}
use Rattle.sz_spec.specs.declared.flow.SourceRef.{SourceRef}
use Rattle.sz_spec.specs.Values.{Grid}
use Rattle.sz_spec.specs.Shapes.{Site, shape_of}
use Rattle.sz_spec.specs.Affected.{affected_by}
use Rattle.sz_flow.specs.Nodes.{inputs_among}
use Rattle.sz_refresh.specs.Changes.{changed_from}
use Rattle.sz_refresh.specs.Outputs.{KeepsOthers}
use Rattle.sz_refresh.proofs.Runs.{out-over}
use Rattle.sz_refresh.proofs.node.refresh_node.Goals as goal

pub run_after-requires-clause-cells : goal.run_after-requires-clause-cells
run_after-requires-clause-cells g c κs within =
    let s = arc_value c.args.old.now.at in
    let rule = subst (λ (z : Site). shape_of z.op z.ins ≡ Ok z.out) c.deref.ensures c.out.ensures.rule in
    let changes = changed_from c.args.input c.args.changed.now c.args.sets.now in
    let make : Site → List Grid → Cells = λ z gs.
    affected_by z.op gs (map (λ a. arc_value a) c.as_slice-4.result.now) (map changes c.as_slice-5.result.now) in
    ap (λ (set : Cells). set.extent) (c.in_ok-cells.ensures ∙ ap₂ make c.deref-4.ensures c.as_slice-3.ensures)
    ∙ out-over s c.args.old.now.inputs c.args.old.now.shapes rule

pub run_after-requires-clause-others : goal.run_after-requires-clause-others
run_after-requires-clause-others g c κs within =
    let s = arc_value c.args.old.now.at in
    let olds = c.args.old.now.inputs in
    let out = arc_value c.args.old.now.out in
    let gs : List Grid = inputs_among (map (λ a. arc_value a) c.args.base.now)
    (map (λ r. arc_value r.out) c.args.earlier.now) c.args.node.now in
    let changes = changed_from c.args.input c.args.changed.now c.args.sets.now in
    let taken : c.in_ok-inputs.inputs ≡ gs = c.in_ok-inputs.ensures in
    let make : Op → List Grid → List Grid → List SourceRef → Cells = λ op a b from.
    affected_by op a b (map changes from) in
    let op = ap (λ (z : Site). z.op) c.deref-4.ensures ∙ c.requires.op in
    let set : c.in_ok-cells.cells ≡ make c.args.node.now.op olds gs c.args.node.now.from =
    c.in_ok-cells.ensures
    ∙ ap₂ (λ (p : Op) (a : List Grid). make p a (map (λ a. arc_value a) c.as_slice-4.result.now)
    c.as_slice-5.result.now)
    op c.as_slice-3.ensures
    ∙ ap₂ (make c.args.node.now.op olds) (c.as_slice-4.ensures ∙ taken) c.as_slice-5.ensures in
    subst (λ (b : List Grid). KeepsOthers s b out c.in_ok-cells.cells) (sym taken)
    (subst (λ (z : Cells). KeepsOthers s gs out z) (sym set) c.requires.others)
