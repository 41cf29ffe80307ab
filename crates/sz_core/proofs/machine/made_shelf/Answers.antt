-- The node's sources are there, and its pairs lie within its shapes.
use Rattle.std.proofs.Common.{◌≡◌, length, get_or, map, sym, ap}
use Rattle.std.proofs.Common.{◌∙◌, arith}
use Rattle.std.proofs.lemmas.List.{length-map}
use Rattle.sz_spec.specs.declared.flow.Node.{Node}
use Rattle.sz_spec.specs.Values.{extent_at}
use Rattle.sz_spec.specs.FlowShapes.{source_shape}
use Rattle.sz_core.specs.Starts.{shelf_of, shapes_made, shapes_taken}
use Rattle.sz_core.proofs.Starting.{node-at, arity-few, fit-parts, count-made, taken-found, out-found}
use Rattle.sz_core.proofs.Starting.{pairs-within, pieces-few}
use Rattle.sz_core.proofs.machine.made_shelf.Goals.{After-index-nodes-node, In_ok-ins, After-index-outs-node}
use Rattle.sz_core.proofs.machine.made_shelf.Goals as goal

node : (c : After-index-nodes-node)
    → c.index-nodes-node.result ≡ get_or c.args.flow.now.nodes c.args.node c.index-nodes-node.result
node c = rw c.nodes.ensures at c.index-nodes-node.is

ins : (c : In_ok-ins)
    → c.index-nodes-node.result ≡ get_or c.args.flow.now.nodes c.args.node c.index-nodes-node.result
    → c.in_ok-ins.ins.items ≡ shapes_taken c.args.flow.now c.args.base.now c.args.node
ins c at =
    taken-found c.args.flow.now c.args.base.now c.args.outs.now c.in_ok-ins.ins.items c.args.node
    c.index-nodes-node.result c.as_slice.result.now c.requires.node at
    c.requires.shapes (c.as_slice.ensures ∙ ap (λ (y : Node). y.from) (sym c.index-nodes-node.is))
    c.in_ok-ins.ensures

out : (c : After-index-outs-node)
    → c.index-outs-node.result ≡ extent_at (shapes_made c.args.flow.now c.args.base.now) c.args.node
out c =
    out-found c.args.flow.now c.args.base.now c.args.outs.now c.args.node c.index-outs-node.result c.requires.fits
    c.requires.node c.requires.shapes c.index-outs-node.is

pub input_shapes-requires : goal.input_shapes-requires
input_shapes-requires c =
    let flow = c.args.flow.now in
    let base = c.args.base.now in
    let x = c.index-nodes-node.result in
    let at = node (goal.at.input_shapes-requires c).After-index-nodes-node in
    let long : length c.args.outs.now ≡ length flow.nodes =
    ap length c.requires.shapes ∙ count-made flow base c.requires.fits in
    rw (
      c.as_slice.ensures ∙ ap (λ (y : Node). y.from) (sym c.index-nodes-node.is),
      (fit-parts flow base c.requires.fits).0,
    )
    (node-at flow c.args.node (length c.args.outs.now) x c.requires.checked
    c.requires.node at (omega (arith, long, c.requires.node))).1

pub bounds-outs-node : goal.bounds-outs-node
bounds-outs-node c =
    let long : length c.args.outs.now ≡ length c.args.flow.now.nodes =
    ap length c.requires.shapes ∙ count-made c.args.flow.now c.args.base.now c.requires.fits in
    omega (arith, long, c.requires.node)

pub new-requires : goal.new-requires
new-requires c =
    let flow = c.args.flow.now in
    let base = c.args.base.now in
    let s = shelf_of flow base c.args.node c.args.pairs in
    let x = c.index-nodes-node.result in
    let here = goal.at.new-requires c in
    let at = node here.After-index-nodes-node in
    let taken = ins here.In_ok-ins at in
    let made = out here.After-index-outs-node in
    let right = node-at flow c.args.node c.args.node x c.requires.checked c.requires.node at (omega arith) in
    let pieces : length c.pairs.inside.pieces.items ≡ length c.args.pairs =
    sym (length-map c.pairs.inside.pieces.items (λ v. v.items)) ∙ ap length c.pairs.view_is in
    record {
      few = omega (
        arith,
        ap length (c.in_ok-ins.ensures ∙ ap (map (source_shape base c.args.outs.now))
            (c.as_slice.ensures ∙ ap (λ (y : Node). y.from) (sym c.index-nodes-node.is)))
            ∙ length-map x.from (source_shape base c.args.outs.now),
        right.0,
        arity-few x.op,
      );
      count = rw (pieces, made) (pieces-few s c.requires.shelf);
      within = rw (made, taken, c.pairs.view_is) (pairs-within s c.requires.shelf);
    }

pub returns : goal.returns
returns c =
    let here = goal.at.returns c in
    let taken = ins here.In_ok-ins (node here.After-index-nodes-node) in
    let made = out here.After-index-outs-node in
    rw (made, taken, c.pairs.view_is) at c.new.ensures
