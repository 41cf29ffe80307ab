-- A layer that is none ends the walk. After the last layer there are as many values as the shape has cells.
use Rattle.std.proofs.Common.{◌≡◌, [], length, map, ◌*◌, ap, ◌∙◌, sym, arith}
use Rattle.serde_json.specs.View.{view}
use Rattle.sz_cells.specs.Extent.{size_of}
use Rattle.sz_script.specs.Layers.{is_layer, values_of_layer}
use Rattle.sz_script.proofs.Walks.{walked_bad, walked_passed, walked_given, seen_long}
use Rattle.sz_script.proofs.LayersRead.{filled_bad, layers_long, none_made}
use Rattle.sz_script.proofs.layers.fill.Goals as goal

pub returns-then-not-branch : goal.returns-then-not-branch
returns-then-not-branch c =
    filled_bad c.args.shape c.args.height c.args.width _
    (walked_bad (is_layer c.args.height c.args.width) c.args.layers.now c.loop-layer.layer-index c.layer-item.result
    c.loop-layer-test.true c.layer-item.is (sym c.in_ok-push_layer.ensures.tested ∙ c.if-not-branch.true))

pub returns-in-None : goal.returns-in-None
returns-in-None c =
    let end : c.loop-layer.layer-index ≡ length c.args.layers.now = omega arith in
    let test = is_layer c.args.height c.args.width in
    let passed = walked_passed test values_of_layer c.args.layers.now c.loop-layer.layer-index []
    c.loop-layer.cells.items end c.loop-layer.invariant in
    let given = walked_given test values_of_layer c.args.layers.now c.loop-layer.layer-index []
    c.loop-layer.cells.items end c.loop-layer.invariant in
    none_made c.loop-layer.cells.items c.args.shape _
    (ap length given ∙ layers_long c.args.height c.args.width (map view c.args.layers.now) passed
    ∙ ap (λ n. (n * c.args.height) * c.args.width) (seen_long c.args.layers.now)
    ∙ ap size_of (sym c.requires))
    c.in-None.ensures
